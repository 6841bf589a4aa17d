-- What the calls on owners keep.
use Rattle.std.proofs.Common.{◌≡◌, ℕ, ◌+◌, ◌≤◌, ◌<◌, Bool, true, false, Option, Some, None, List, [], ◌∷◌, All, refl, ap, ◌∙◌, inl, inr, arith, cond, count_by}
use Rattle.std.specs.Prelude.{◌==◌, nat_lt, if◌then◌else◌, filter}
use Rattle.std.proofs.lemmas.Bool.{cases_eq, cases_Bool, cases_lt, eq-eqb, ne_eqb, lt-ltb, le-ltb}
use Rattle.std.proofs.lemmas.List.Sums.{sum_by-cons}
use Rattle.std.proofs.lemmas.List.Elements.{All-nil, All-cons}
use Rattle.pgs_step.specs.declared.ids.Item.{Item}
use Rattle.pgs_step.specs.declared.ids.Phase.{Phase}
use Rattle.forest.specs.Forest.{Empty, Node, has, times, Once, size, at, children, put, removed, changed, moved}
use Rattle.forest.specs.Walk.{all_changed, swept}
use Rattle.forest.proofs.Trees.{apart_of, where_is, has_none, put_absent, removed_absent, changed_absent, times_put, times_removed, times_changed, size_put, size_removed, size_changed, Moves, once_removed, parent_stays, at_some, at_absent, has_at}
use Rattle.owner_kinds.specs.KindTable.{KindTable}
use Rattle.owner_items.specs.ItemList.{without_newest}
use Rattle.owner_core.specs.Owners.{Owner, OwnerTree, created}
use Rattle.owner_core.specs.Released.{left_of, own_released}
use Rattle.owner_core.specs.Sound.{one_below, total, IsSound}
use Rattle.std.proofs.lemmas.Bool.Decides.{nat_tests}

one_le : (next n : ℕ) → one_below next n ≤ 1
one_le next n = elim (cases_Bool (nat_lt n next)) [ inl y ↦ rw y (omega arith) | inr y ↦ rw y (omega arith) ]

one_yes : (next n : ℕ) → n < next → one_below next n ≡ 1
one_yes next n h = rw (lt-ltb n next h) refl

one_no : (next n : ℕ) → next ≤ n → one_below next n ≡ 0
one_no next n h = rw (le-ltb n next h) refl

one_more : (next n : ℕ) → one_below next n ≤ one_below (next + 1) n
one_more next n = grind (arith, nat_tests, cases_lt n next, one_yes next n, one_yes (next + 1) n, one_no next n)

pub once_of : (owners : OwnerTree) (a b : ℕ) → IsSound owners a b → Once owners
once_of owners a b s = record { once = λ n. omega (arith, s.numbers n, one_le a n) }

pub fresh : (owners : OwnerTree) (a b : ℕ) → IsSound owners a b → has a owners ≡ false
fresh owners a b s = has_none a owners (omega (arith, s.numbers a, one_no a a (omega arith)))

-- a number more
more_numbers : (owners : OwnerTree) (next n : ℕ) → ((m : ℕ) → times m owners ≤ one_below next m) → times n owners + (if next == n then 1 else 0) ≤ one_below (next + 1) n
more_numbers owners next n h = grind (arith, nat_tests, cases_eq next n, eq-eqb next n, one_no next n, one_yes (next + 1) n, ne_eqb next n, one_more next n)

module _ (g : Owner → ℕ) where
  pub total_put : (p n : ℕ) (a : Owner) (sub t : OwnerTree) → Once t → has p t ≡ true → total g (put p n a sub t) ≡ total g t + (g a + total g sub)
  total_put p n a sub Empty o h = absurd (cc)
  total_put p n a sub (Node k b below beside) o h = grind (arith, nat_tests, apart_of k b below beside o, where_is p k b below beside o h, put_absent p n a sub beside, put_absent p n a sub below, total_put p n a sub below (apart_of k b below beside o).once_below, total_put p n a sub beside (apart_of k b below beside o).once_beside)

  pub total_removed : (n : ℕ) (a : Owner) (t : OwnerTree) → Once t → at n t ≡ Some a → total g (removed n t) + (g a + total g (children n t)) ≡ total g t
  total_removed n a Empty o h = absurd (cc)
  total_removed n a (Node k b below beside) o h = grind (arith, nat_tests, apart_of k b below beside o, where_is n k b below beside o (has_at n (Node k b below beside) a h), has_at n (Node k b below beside) a h, at_some n below, removed_absent n beside, removed_absent n below, total_removed n a below (apart_of k b below beside o).once_below, total_removed n a beside (apart_of k b below beside o).once_beside, at_absent n below)

  pub total_changed : (n : ℕ) (f : Owner → Owner) (a : Owner) (t : OwnerTree) → Once t → at n t ≡ Some a → total g (changed n f t) + g a ≡ total g t + g (f a)
  total_changed n f a Empty o h = absurd (cc)
  total_changed n f a (Node k b below beside) o h = grind (arith, nat_tests, apart_of k b below beside o, where_is n k b below beside o (has_at n (Node k b below beside) a h), has_at n (Node k b below beside) a h, at_some n below, changed_absent n f below, changed_absent n f beside, total_changed n f a below (apart_of k b below beside o).once_below, total_changed n f a beside (apart_of k b below beside o).once_beside, at_absent n below)

  pub total_at : (n : ℕ) (a : Owner) (t : OwnerTree) → at n t ≡ Some a → g a ≤ total g t
  total_at n a Empty h = absurd (cc)
  total_at n a (Node k b below beside) h = grind (arith, nat_tests, cases_Bool (k == n), cases_Bool (has n below), at_some n below, total_at n a below, total_at n a beside, at_absent n below)

  pub total_moved : (n p : ℕ) (a : Owner) (t : OwnerTree) → Once t → Moves n p t → at n t ≡ Some a → total g (put p n a (children n t) (removed n t)) ≡ total g t
  total_moved n p a t o w h = grind (arith, nat_tests, total_put p n a (children n t) (removed n t) (once_removed n t o w.node) (parent_stays n p t o w), once_removed n t o w.node, parent_stays n p t o w, total_removed n a t o h)

  total_all : (f : Owner → Owner) (t : OwnerTree) → ((a : Owner) → g (f a) ≤ g a) → total g (all_changed f t) ≤ total g t
  total_all f Empty h = omega arith
  total_all f (Node k a below beside) h = omega (arith, h a, total_all f below h, total_all f beside h)

  pub total_swept : (f : Owner → Owner) (n : ℕ) (t : OwnerTree) → ((a : Owner) → g (f a) ≤ g a) → total g (swept f n t) ≤ total g t
  total_swept f n Empty h = omega arith
  total_swept f n (Node k a below beside) h = grind (arith, nat_tests, cases_Bool (k == n), total_all f below h, total_swept f n beside h, total_swept f n below h)

times_all : (m : ℕ) (f : Owner → Owner) (t : OwnerTree) → times m (all_changed f t) ≡ times m t
times_all m f Empty = refl
times_all m f (Node k a below beside) = rw (times_all m f below, times_all m f beside) refl

times_swept : (m : ℕ) (f : Owner → Owner) (n : ℕ) (t : OwnerTree) → times m (swept f n t) ≡ times m t
times_swept m f n Empty = refl
times_swept m f n (Node k a below beside) = grind (arith, nat_tests, cases_Bool (k == n), times_all m f below, times_swept m f n beside, times_swept m f n below)

size_all : (f : Owner → Owner) (t : OwnerTree) → size (all_changed f t) ≡ size t
size_all f Empty = refl
size_all f (Node k a below beside) = rw (size_all f below, size_all f beside) refl

size_swept : (f : Owner → Owner) (n : ℕ) (t : OwnerTree) → size (swept f n t) ≡ size t
size_swept f n Empty = refl
size_swept f n (Node k a below beside) = grind (arith, nat_tests, cases_Bool (k == n), size_all f below, size_swept f n beside, size_swept f n below)

-- how often a serial stands
module _ (s : ℕ) where
  count-cons : (i : Item) (items : List Item) → count_by (λ (x : Item). x.serial == s) (i ∷ items) ≡ (if i.serial == s then 1 else 0) + count_by (λ (x : Item). x.serial == s) items
  count-cons i items = sum_by-cons (λ (x : Item). cond (x.serial == s) 1 0) i items

  count_filter : (test : Item → Bool) (items : List Item) → count_by (λ (x : Item). x.serial == s) (filter test items) ≤ count_by (λ (x : Item). x.serial == s) items
  count_filter test [] = omega arith
  count_filter test (i ∷ items) = grind (arith, nat_tests, cases_Bool (test i), count-cons i (filter test items), count-cons i items, count_filter test items)

  pub count_without : (test : Item → Bool) (items : List Item) → count_by (λ (x : Item). x.serial == s) (without_newest test items) ≤ count_by (λ (x : Item). x.serial == s) items
  count_without test [] = omega arith
  count_without test (i ∷ items) = grind (arith, nat_tests, cases_Bool (test i), count-cons i items, count-cons i (without_newest test items), count_without test items)

  count_left : (kinds : KindTable) (phase : Phase) (items : List Item) → count_by (λ (x : Item). x.serial == s) (left_of kinds phase items) ≤ count_by (λ (x : Item). x.serial == s) items
  count_left kinds x1 items = grind (arith, nat_tests, count_filter)

pub sound_created : (parent : Option ℕ) (owners : OwnerTree) (a b : ℕ) → IsSound owners a b → size owners < 65536 → IsSound (created parent a owners) (a + 1) b
sound_created None owners a b s few = grind (arith, nat_tests, more_numbers owners a)
sound_created (Some p) owners a b s few =
    elim (cases_Bool (has p owners)) [
      | inl h ↦
          let o : Once owners = once_of owners a b s in
          record {
            numbers = λ n. omega (arith, more_numbers owners a n s.numbers, times_put n p a (record { begun = false; items = [] }) Empty owners o h);
            serials = λ n. omega (arith, s.serials n, total_put (λ (x : Owner). count_by (λ (i : Item). i.serial == n) x.items) p a (record { begun = false; items = [] }) Empty owners o h);
            few = omega (arith, size_put p a (record { begun = false; items = [] }) Empty owners o h);
          }
      | inr h ↦
          let same : put p a (record { begun = false; items = [] }) Empty owners ≡ owners = put_absent p a (record { begun = false; items = [] }) Empty owners h in
          rw same (record {
            numbers = λ n. omega (arith, s.numbers n, one_more a n);
            serials = s.serials;
            few = s.few;
          })
    ]

pub sound_removed : (n : ℕ) (owners : OwnerTree) (a b : ℕ) → IsSound owners a b → IsSound (removed n owners) a b
sound_removed n owners a b s = grind (arith, nat_tests, cases_Bool (has n owners), once_of owners a b s, at_some n owners, times_removed, total_removed, count_by, size_removed n owners (once_of owners a b s), removed_absent n owners)

-- where the new parent isn't there, what moves is lost
pub sound_moved : (n p : ℕ) (owners : OwnerTree) (a b : ℕ) → IsSound owners a b → IsSound (moved n p owners) a b
sound_moved n p owners a b s = grind (arith, nat_tests, at_absent, once_of owners a b s, at_some, removed n owners, once_removed, moved, put_absent, sound_removed n owners a b s, s.numbers, times_put, times_removed, s.serials, total_put, total_removed, s.few, size_put, size_removed)

pub sound_remembered : (n : ℕ) (x : Owner) (item : Item) (owners : OwnerTree) (a b : ℕ) → IsSound owners a b → at n owners ≡ Some x → item.serial ≡ b
    → IsSound (changed n (λ owner. record owner { items = item ∷ owner.items }) owners) a (b + 1)
sound_remembered n x item owners a b s h e =
    let o : Once owners = once_of owners a b s in
    record {
      numbers = λ m. rw (times_changed m n (λ (owner : Owner). record owner { items = item ∷ owner.items }) owners) (s.numbers m);
      serials = λ m.
          let sum = total_changed (λ (y : Owner). count_by (λ (i : Item). i.serial == m) y.items) n (λ (owner : Owner). record owner { items = item ∷ owner.items }) x owners o h in
          let here = count-cons m item x.items in
          elim (cases_eq item.serial m) [
            | inl q ↦ let one = here ∙ ap (λ (t : Bool). cond t 1 0 + count_by (λ (i : Item). i.serial == m) x.items) (eq-eqb item.serial m q) in omega (arith, sum, one, s.serials m, one_no b m (omega (arith, e, q)), one_yes (b + 1) m (omega (arith, e, q)))
            | inr ne ↦ let none = here ∙ ap (λ (t : Bool). cond t 1 0 + count_by (λ (i : Item). i.serial == m) x.items) (ne_eqb item.serial m ne) in omega (arith, sum, none, s.serials m, one_more b m)
          ];
      few = omega (arith, s.few, size_changed n (λ (owner : Owner). record owner { items = item ∷ owner.items }) owners);
    }

pub sound_forgotten : (n : ℕ) (x : Owner) (test : Item → Bool) (owners : OwnerTree) (a b : ℕ) → IsSound owners a b → at n owners ≡ Some x
    → IsSound (changed n (λ owner. record owner { items = without_newest test owner.items }) owners) a b
sound_forgotten n x test owners a b s h =
    let o : Once owners = once_of owners a b s in
    record {
      numbers = λ m. rw (times_changed m n (λ (owner : Owner). record owner { items = without_newest test owner.items }) owners) (s.numbers m);
      serials = λ m. omega (
        arith,
        s.serials m,
        count_without m test x.items,
        total_changed (λ (y : Owner). count_by (λ (i : Item). i.serial == m) y.items) n (λ (owner : Owner). record owner { items = without_newest test owner.items }) x owners o h,
      );
      few = omega (arith, s.few, size_changed n (λ (owner : Owner). record owner { items = without_newest test owner.items }) owners);
    }

pub sound_released : (kinds : KindTable) (phase : Phase) (n : ℕ) (owners : OwnerTree) (a b : ℕ) → IsSound owners a b → IsSound (swept (own_released kinds phase) n owners) a b
sound_released kinds phase n owners a b s = record {
  numbers = λ m. rw (times_swept m (own_released kinds phase) n owners) (s.numbers m);
  serials = λ m. omega (
    arith,
    s.serials m,
    total_swept (λ (y : Owner). count_by (λ (i : Item). i.serial == m) y.items) (own_released kinds phase) n owners (λ x. count_left m kinds phase x.items),
  );
  few = omega (arith, s.few, size_swept (own_released kinds phase) n owners);
}

-- items of which no serial is one that is still to be given
below_all : (items : List Item) (next : ℕ) → ((s : ℕ) → count_by (λ (i : Item). i.serial == s) items ≤ one_below next s) → All (λ (i : Item). i.serial < next) items
below_all [] next h = All-nil (λ (i : Item). i.serial < next)
below_all (x ∷ xs) next h = grind (arith, nat_tests, count-cons x.serial x xs, count-cons, count_by, eq-eqb x.serial x.serial refl, cases_lt x.serial next, one_no next x.serial, All-cons, below_all xs next)

-- each serial of an owner's items is below the one that is given next
pub newest : (n : ℕ) (x : Owner) (owners : OwnerTree) (a b : ℕ) → IsSound owners a b → at n owners ≡ Some x → All (λ (i : Item). i.serial < b) x.items
newest n x owners a b s h = grind (arith, nat_tests, below_all x.items b, total_at, count_by)
