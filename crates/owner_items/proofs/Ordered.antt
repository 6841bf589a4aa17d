-- Entries in the order of a release.
use Rattle.std.proofs.Common.{◌≡◌, ℕ, ◌<◌, ◌≤◌, suc, true, false, List, [], ◌∷◌, ◌++◌, length, reverse, get_or, All, arith}
use Rattle.std.specs.declared.cmp.Ordering.{Ordering}
use Rattle.std.specs.Ordering.{is_lt, nat_cmp, ordering_then}
use Rattle.std.specs.Cmp.{IsTotalOrder}
use Rattle.std.specs.List.Sorted.{IsSortedByKey}
use Rattle.std.proofs.lemmas.Bool.Decides.{nat_tests}
use Rattle.std.proofs.lemmas.Grind.{reverse_onto}
use Rattle.std.proofs.lemmas.List.Elements.{All-nil, All-cons, All-head, All-tail}
use Rattle.std.proofs.lemmas.List.Sorted.{sorted_far, ranks_by, All-permutation, IsPermutation-reverse}
use Rattle.pgs_step.specs.declared.ids.Item.{Item}
use Rattle.owner_items.specs.declared.entry.Entry.{Entry}
use Rattle.owner_items.specs.Gathered.{GoesFirst, IsInOrder}

abbrev pub pair_cmp : ℕ × ℕ → ℕ × ℕ → Ordering
pair_cmp x y = ordering_then (nat_cmp x.0 y.0) (nat_cmp x.1 y.1)

abbrev pub release_key : (Item → ℕ) → Entry → ℕ × ℕ
release_key rank entry = (rank entry.item, entry.item.serial)

pair_total : IsTotalOrder pair_cmp
pair_total = grind (arith, nat_tests)

goes : (rank : Item → ℕ) (x y : Entry) → is_lt (pair_cmp (release_key rank x) (release_key rank y)) ≡ false → GoesFirst rank x.item y.item
goes rank x y not_less = grind (arith, nat_tests)

All-push : (P : Entry → Type 0) (ys : List Entry) (x : Entry) → All P ys → P x → All P (ys ++ x ∷ [])
All-push P [] x all here = All-cons P x [] here all
All-push P (y ∷ ys) x all here = grind (arith, nat_tests, All-cons, All-head, All-tail, All-push P ys x (All-tail P y ys all) here)

pub order-back :
    (rank : Item → ℕ) (ys : List Entry) (x : Entry) → IsInOrder rank ys → All (λ y. GoesFirst rank y.item x.item) ys →
    x.live ≡ true → IsInOrder rank (ys ++ x ∷ [])
order-back rank [] x ordered first live = (live, All-nil (λ z. GoesFirst rank x.item z.item), tt)
order-back rank (y ∷ ys) x ordered first live = (
  ordered.0,
  All-push (λ z. GoesFirst rank y.item z.item) ys x ordered.1 (All-head (λ z. GoesFirst rank z.item x.item) y ys first),
  order-back rank ys x ordered.2 (All-tail (λ z. GoesFirst rank z.item x.item) y ys first) live,
)

reversed :
    (rank : Item → ℕ) (xs : List Entry) →
    ((i j : ℕ) (d : Entry) → i < j → j < length xs → GoesFirst rank (get_or xs j d).item (get_or xs i d).item) →
    All (λ x. x.live ≡ true) xs → IsInOrder rank (reverse xs)
reversed rank [] pairs live = tt
reversed rank (x ∷ xs) pairs live =
    rw (reverse_onto xs x [])
    (order-back rank (reverse xs) x
    (reversed rank xs (λ i j d before within. pairs (suc i) (suc j) d (omega arith) (omega arith)) (All-tail (λ x. x.live ≡ true) x xs live))
    (All-permutation (λ y. GoesFirst rank y.item x.item) xs (reverse xs) (IsPermutation-reverse xs)
    (λ k d within. pairs 0 (suc k) d (omega arith) (omega arith)))
    (All-head (λ x. x.live ≡ true) x xs live))

pub ordered :
    (rank : Item → ℕ) (xs : List Entry) → IsSortedByKey (release_key rank) pair_cmp xs → All (λ x. x.live ≡ true) xs →
    IsInOrder rank (reverse xs)
ordered rank xs sorted live =
    let far :
    (i j : ℕ) (d : Entry) → i ≤ j → j < length xs →
    is_lt (pair_cmp (release_key rank (get_or xs j d)) (release_key rank (get_or xs i d))) ≡ false =
    sorted_far (λ x y. is_lt (pair_cmp (release_key rank x) (release_key rank y))) (ranks_by pair_total (release_key rank)) xs sorted
    in
    reversed rank xs (λ i j d before within. goes rank (get_or xs j d) (get_or xs i d) (far i j d (omega arith) within)) live
