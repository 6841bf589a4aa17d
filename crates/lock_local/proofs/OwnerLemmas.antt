-- The counts of a lock's owners.
use Rattle.std.proofs.lemmas.Bool.Decides.{nat_tests}
use Rattle.lock_local.proofs.Base.{[], added, All, All-cons, All-filter, All-head, All-nil, All-tail, ap, arith, Bool, cond, count_if, eq-eqb, eqb-true, fails_before_first, false, false≢true, filter, get_or, IsOk, items-with_items, length, length-set, List, lowered, ltb-false, nat_eq, ne_eqb, None, not, OnOk, Option, OwnerCount, passes_at_first, position, refl, remove, Result, set, SmallVec, Some, suc, sum_by, sum_by-cons, sum_by-drop_more, sum_by-take-drop, sym, take, true, with_items, zero, ℕ, ◌++◌, ◌+◌, ◌-◌, ◌<◌, ◌^◌, ◌∙◌, ◌∷◌, ◌≡◌, ◌≢◌, ◌≤◌}

abbrev pub is_owner : ℕ → OwnerCount → Bool
is_owner owner c = nat_eq c.owner owner

abbrev pub Counted : OwnerCount → Type 0
Counted c = 1 ≤ c.count

abbrev pub counts : List OwnerCount → ℕ
counts xs = sum_by (λ c. c.count) xs

-- the first entry of the owner stands at i
pub record IsFirstOf (owner : ℕ) (xs : List OwnerCount) (i : ℕ) (d : OwnerCount) : Type 0 where
  pub within : i < length xs
  pub here : is_owner owner (get_or xs i d) ≡ true
  pub before : (k : ℕ) → k < i → is_owner owner (get_or xs k d) ≡ false

pub first_tail : (owner : ℕ) (x : OwnerCount) (xs : List OwnerCount) (i : ℕ) (d : OwnerCount) → IsFirstOf owner (x ∷ xs) (suc i) d → IsFirstOf owner xs i d
first_tail owner x xs i d f = record {
  within = let w = f.within in omega arith;
  here = f.here;
  before = λ k l. f.before (suc k) (omega arith);
}

pub added_at : (owner n : ℕ) (xs : List OwnerCount) (i : ℕ) (d : OwnerCount) → IsFirstOf owner xs i d → set xs i (record { owner = (get_or xs i d).owner; count = (get_or xs i d).count + n }) ≡ added owner n xs
added_at owner n [] i d f = absurd (let w = f.within in omega arith)
added_at owner n (x ∷ xs) zero d f = cc
added_at owner n (x ∷ xs) (suc i) d f = grind (arith, nat_tests, first_tail owner x xs i d f, added_at owner n xs i d (first_tail owner x xs i d f), f.before zero (omega arith))

pub added_none : (owner n : ℕ) (xs : List OwnerCount) (d : OwnerCount) → ((k : ℕ) → k < length xs → is_owner owner (get_or xs k d) ≡ false) → xs ++ record { owner = owner; count = n } ∷ [] ≡ added owner n xs
added_none owner n [] d h = refl
added_none owner n (x ∷ xs) d h =
    let y : OwnerCount = record { owner = x.owner; count = x.count + n } in
    ap (λ zs. x ∷ zs) (added_none owner n xs d (λ k l. h (suc k) (omega arith)))
    ∙ ap (λ b. cond b (y ∷ xs) (x ∷ added owner n xs)) (sym (h zero (omega arith)))

abbrev pub less_one : OwnerCount → List OwnerCount → List OwnerCount
less_one c cs = cond (nat_eq c.count 1) cs (record { owner = c.owner; count = c.count - 1 } ∷ cs)

pub lowered_gone : (owner : ℕ) (xs : List OwnerCount) (i : ℕ) (d : OwnerCount) → IsFirstOf owner xs i d → (get_or xs i d).count ≡ 1 → remove xs i ≡ lowered owner xs
lowered_gone owner [] i d f one = absurd (let w = f.within in omega arith)
lowered_gone owner (x ∷ xs) zero d f one = cc (eq-eqb x.count 1 one)
lowered_gone owner (x ∷ xs) (suc i) d f one = grind (arith, nat_tests, first_tail owner x xs i d f, lowered_gone owner xs i d (first_tail owner x xs i d f) one, f.before zero (omega arith))

pub lowered_kept : (owner : ℕ) (xs : List OwnerCount) (i : ℕ) (d : OwnerCount) → IsFirstOf owner xs i d → (get_or xs i d).count ≢ 1 → set xs i (record { owner = (get_or xs i d).owner; count = (get_or xs i d).count - 1 }) ≡ lowered owner xs
lowered_kept owner [] i d f more = absurd (let w = f.within in omega arith)
lowered_kept owner (x ∷ xs) zero d f more = cc (ne_eqb x.count 1 more)
lowered_kept owner (x ∷ xs) (suc i) d f more = grind (arith, nat_tests, first_tail owner x xs i d f, lowered_kept owner xs i d (first_tail owner x xs i d f) more, f.before zero (omega arith))

-- what the counts add up to
pub counts-added : (owner n : ℕ) (xs : List OwnerCount) → counts (added owner n xs) ≡ counts xs + n
counts-added owner n [] = omega (arith, sum_by-cons (λ (c : OwnerCount). c.count) (record { owner = owner; count = n }) [])
counts-added owner n (x ∷ xs) = grind (arith, nat_tests, counts-added owner n xs, sum_by-cons (λ (c : OwnerCount). c.count) (record { owner = x.owner; count = x.count + n }) xs, sum_by-cons (λ (c : OwnerCount). c.count) x xs, sum_by-cons (λ (c : OwnerCount). c.count) x (added owner n xs))

pub Counted-added : (owner n : ℕ) (xs : List OwnerCount) → 1 ≤ n → All Counted xs → All Counted (added owner n xs)
Counted-added owner n [] l h = All-cons Counted (record { owner = owner; count = n }) [] l (All-nil Counted)
Counted-added owner n (x ∷ xs) l h = grind (arith, nat_tests, All-tail Counted x xs h, Counted-added owner n xs l (All-tail Counted x xs h), All-head Counted x xs h)

pub counts-lowered : (owner : ℕ) (xs : List OwnerCount) → All Counted xs → 0 < sum_by (count_if owner) xs → counts (lowered owner xs) + 1 ≡ counts xs
counts-lowered owner [] h l = absurd (omega (arith, l))
counts-lowered owner (x ∷ xs) h l = by_test (counts-lowered owner xs (All-tail Counted x xs h)) (is_owner owner x) refl
  where
    one : 1 ≤ x.count
    one = All-head Counted x xs h

    by_count : (t : Bool) → nat_eq x.count 1 ≡ t → counts (cond t xs (record { owner = x.owner; count = x.count - 1 } ∷ xs)) + 1 ≡ counts (x ∷ xs)
    by_count true e = omega (arith, eqb-true x.count 1 e, sum_by-cons (λ (c : OwnerCount). c.count) x xs)
    by_count false e = omega (arith, All-head Counted x xs h, sum_by-cons (λ (c : OwnerCount). c.count) x xs, sum_by-cons (λ (c : OwnerCount). c.count) (record { owner = x.owner; count = x.count - 1 }) xs)

    by_test : (0 < sum_by (count_if owner) xs → counts (lowered owner xs) + 1 ≡ counts xs) → (t : Bool) → is_owner owner x ≡ t → counts (cond t (less_one x xs) (x ∷ lowered owner xs)) + 1 ≡ counts (x ∷ xs)
    by_test ih true e = by_count (nat_eq x.count 1) refl
    by_test ih false e =
        let none : count_if owner x ≡ 0 = ap (λ b. cond b x.count 0) e in
        omega (arith, ih (omega (arith, l, none, sum_by-cons (count_if owner) x xs)), sum_by-cons (λ (c : OwnerCount). c.count) x (lowered owner xs), sum_by-cons (λ (c : OwnerCount). c.count) x xs)

pub Counted-lowered : (owner : ℕ) (xs : List OwnerCount) → All Counted xs → All Counted (lowered owner xs)
Counted-lowered owner [] h = h
Counted-lowered owner (x ∷ xs) h = grind (arith, nat_tests, All-tail Counted x xs h, Counted-lowered owner xs (All-tail Counted x xs h), All-head Counted x xs h)

-- what one owner's going leaves
abbrev pub others : ℕ → List OwnerCount → List OwnerCount
others owner xs = filter (λ c. not (is_owner owner c)) xs

pub counts-others : (owner : ℕ) (xs : List OwnerCount) → counts (others owner xs) + sum_by (count_if owner) xs ≡ counts xs
counts-others owner [] = refl
counts-others owner (x ∷ xs) = by_test (counts-others owner xs) (is_owner owner x) refl
  where
    by_test : (counts (others owner xs) + sum_by (count_if owner) xs ≡ counts xs) → (t : Bool) → is_owner owner x ≡ t → counts (cond (not t) (x ∷ others owner xs) (others owner xs)) + sum_by (count_if owner) (x ∷ xs) ≡ counts (x ∷ xs)
    by_test ih true e =
        let all : count_if owner x ≡ x.count = ap (λ b. cond b x.count 0) e in
        omega (arith, all, ih, sum_by-cons (λ (c : OwnerCount). c.count) x xs, sum_by-cons (count_if owner) x xs)
    by_test ih false e =
        let none : count_if owner x ≡ 0 = ap (λ b. cond b x.count 0) e in
        omega (arith, none, ih, sum_by-cons (λ (c : OwnerCount). c.count) x xs, sum_by-cons (λ (c : OwnerCount). c.count) x (others owner xs), sum_by-cons (count_if owner) x xs)

pub others_le : (owner : ℕ) (xs : List OwnerCount) → length (others owner xs) ≤ length xs
others_le owner [] = omega arith
others_le owner (x ∷ xs) = grind (arith, nat_tests, others_le owner xs)

pub others_lt : (owner : ℕ) (xs : List OwnerCount) → 0 < sum_by (count_if owner) xs → length (others owner xs) < length xs
others_lt owner [] l = absurd (omega (arith, l))
others_lt owner (x ∷ xs) l = grind (arith, nat_tests, others_lt owner xs, others_le owner xs)

-- an owner that holds the lock has a first entry
pub some_first : (owner : ℕ) (xs : List OwnerCount) (i : ℕ) (d : OwnerCount) → position (is_owner owner) xs ≡ Some i → IsFirstOf owner xs i d
some_first owner xs i d e = grind (arith, nat_tests, passes_at_first, fails_before_first)

pub none_first : (owner : ℕ) (xs : List OwnerCount) (d : OwnerCount) → position (is_owner owner) xs ≡ None → (k : ℕ) → k < length xs → is_owner owner (get_or xs k d) ≡ false
none_first owner xs d e k l = grind (arith, nat_tests, fails_before_first, ltb-false)

-- an owner without an entry doesn't hold the lock
pub none_held : (owner : ℕ) (xs : List OwnerCount) (d : OwnerCount) → ((k : ℕ) → k < length xs → is_owner owner (get_or xs k d) ≡ false) → sum_by (count_if owner) xs ≡ 0
none_held owner [] d h = refl
none_held owner (x ∷ xs) d h =
    let none : count_if owner x ≡ 0 = ap (λ b. cond b x.count 0) (h zero (omega arith)) in
    omega (arith, none, none_held owner xs d (λ k l. h (suc k) (omega arith)), sum_by-cons (count_if owner) x xs)

-- what a search for the owner's entry tells
pub found : (owner : ℕ) (ys xs : List OwnerCount) (r : Option ℕ) (i : ℕ) (d : OwnerCount) → r ≡ position (is_owner owner) ys → ys ≡ xs → r ≡ Some i → IsFirstOf owner xs i d
found owner ys xs r i d e s o = some_first owner xs i d (ap (position (is_owner owner)) (sym s) ∙ sym e ∙ o)

pub not_found : (owner : ℕ) (ys xs : List OwnerCount) (r : Option ℕ) (d : OwnerCount) → r ≡ position (is_owner owner) ys → ys ≡ xs → r ≡ None → (k : ℕ) → k < length xs → is_owner owner (get_or xs k d) ≡ false
not_found owner ys xs r d e s o = none_first owner xs d (ap (position (is_owner owner)) (sym s) ∙ sym e ∙ o)

-- an entry that is read where there is none
abbrev pub no_count : OwnerCount
no_count = record { owner = 0; count = 0 }

-- a write at the owner's entry, through the slice of all entries
pub added_over : (owner n : ℕ) (v : SmallVec OwnerCount) (zs : List OwnerCount) (i : ℕ) → IsFirstOf owner v.items i no_count → zs ≡ v.items
    → (with_items v (set zs i (record { owner = (get_or zs i no_count).owner; count = (get_or zs i no_count).count + n }))).items ≡ added owner n v.items
added_over owner n v zs i f e =
    items-with_items v _ (length-set zs i _ ∙ ap length e)
    ∙ ap (λ (l : List OwnerCount). set l i (record { owner = (get_or l i no_count).owner; count = (get_or l i no_count).count + n })) e
    ∙ added_at owner n v.items i no_count f

pub lowered_over : (owner : ℕ) (v : SmallVec OwnerCount) (zs : List OwnerCount) (i : ℕ) → IsFirstOf owner v.items i no_count → zs ≡ v.items → (get_or v.items i no_count).count ≢ 1
    → (with_items v (set zs i (record { owner = (get_or zs i no_count).owner; count = (get_or zs i no_count).count - 1 }))).items ≡ lowered owner v.items
lowered_over owner v zs i f e more =
    items-with_items v _ (length-set zs i _ ∙ ap length e)
    ∙ ap (λ (l : List OwnerCount). set l i (record { owner = (get_or l i no_count).owner; count = (get_or l i no_count).count - 1 })) e
    ∙ lowered_kept owner v.items i no_count f more

-- each entry within the sum
pub sum_so_far : (owner : ℕ) (xs : List OwnerCount) (i : ℕ) (d : OwnerCount) → i < length xs → sum_by (count_if owner) (take i xs) + (get_or xs i d).count ≤ counts xs
sum_so_far owner xs i d l =
    omega (arith, part owner (take i xs), sum_by-take-drop (λ (c : OwnerCount). c.count) xs i, sum_by-drop_more (λ (c : OwnerCount). c.count) xs i d l)
  where
    part : (owner : ℕ) (xs : List OwnerCount) → sum_by (count_if owner) xs ≤ counts xs
    part owner xs = omega (arith, counts-others owner xs)

-- each count is at least 1, and together they are few
abbrev pub AreFew : List OwnerCount → Type 0
AreFew xs = All Counted xs × (counts xs ≤ 2 ^ 62)

pub few_added : (owner n : ℕ) (xs ys : List OwnerCount) → All Counted xs → 1 ≤ n → counts xs + n ≤ 2 ^ 62 → ys ≡ added owner n xs → AreFew ys
few_added owner n xs ys h l f e = grind (arith, nat_tests, Counted-added owner n xs l h, counts-added owner n xs)

pub few_lowered : (owner : ℕ) (xs ys : List OwnerCount) → AreFew xs → 0 < sum_by (count_if owner) xs → ys ≡ lowered owner xs → AreFew ys
few_lowered owner xs ys h l e = grind (arith, nat_tests, Counted-lowered owner xs h.0, counts-lowered owner xs h.0 l)

pub few_others : (owner : ℕ) (xs ys : List OwnerCount) → AreFew xs → ys ≡ others owner xs → AreFew ys
few_others owner xs ys h e = grind (arith, nat_tests, All-filter (λ c. not (is_owner owner c)) Counted xs h.0, counts-others owner xs)

pub few_handed : (from to n : ℕ) (xs ys : List OwnerCount) → AreFew xs → n ≡ sum_by (count_if from) xs → 0 < n → ys ≡ added to n (others from xs) → AreFew ys
few_handed from to n xs ys h s l e = grind (arith, nat_tests, All-filter (λ c. not (is_owner from c)) Counted xs h.0, counts-others from xs, few_added to n (others from xs) ys (All-filter (λ c. not (is_owner from c)) Counted xs h.0) (omega (arith, l)) (omega (arith, s, h.1, counts-others from xs)) e)

-- there is room for another entry once one has gone
pub room_left : (owner : ℕ) (xs ys : List OwnerCount) (n cap cap' : ℕ) → n ≡ length xs → n ≤ cap → cap' ≡ cap → ys ≡ others owner xs → 0 < sum_by (count_if owner) xs → length ys + 1 ≤ cap'
room_left owner xs ys n cap cap' a b f e l = omega (arith, a, b, f, ap length e, others_lt owner xs l)

pub handed_fits : (from n : ℕ) (xs ys : List OwnerCount) → counts xs ≤ 2 ^ 62 → n ≡ sum_by (count_if from) xs → ys ≡ others from xs → counts ys + n ≤ 2 ^ 62
handed_fits from n xs ys f s e = omega (arith, f, s, ap counts e, counts-others from xs)

-- a call that succeeds, with what it ensures of success
pub at_success : {E P : Type 0} (r : Result (Unit {0}) E) → IsOk r → OnOk r P → P
at_success {E} {P} v0 o h = grind (arith, nat_tests, false≢true)

pub counts-lowered-le : (owner : ℕ) (xs : List OwnerCount) → counts (lowered owner xs) ≤ counts xs
counts-lowered-le owner [] = omega arith
counts-lowered-le owner (x ∷ xs) = grind (arith, nat_tests, counts-lowered-le owner xs, sum_by-cons (λ (c : OwnerCount). c.count) x xs, sum_by-cons (λ (c : OwnerCount). c.count) (record { owner = x.owner; count = x.count - 1 }) xs, sum_by-cons (λ (c : OwnerCount). c.count) x (lowered owner xs))
