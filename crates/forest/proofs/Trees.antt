-- Forests whose numbers stand once each.
use Rattle.std.proofs.Common.{◌≡◌, ◌≢◌, ℕ, ◌+◌, ◌≤◌, true, false, Some, None, refl, inl, inr, arith}
use Rattle.std.specs.Prelude.{◌==◌, ◌||◌, if◌then◌else◌}
use Rattle.std.proofs.lemmas.Bool.{cases_eq, cases_Bool, eq-eqb, ne_eqb, eqb-true, or_parts, or_cases, both_ways, false_from_ne_true}
use Rattle.forest.specs.Forest.{Forest, Empty, Node, has, times, Once, size, at, first, children, put, removed, changed}
use Rattle.std.proofs.lemmas.Bool.Decides.{nat_tests}

module _ {A : Type 0} where
  pub times_none : (n : ℕ) (t : Forest A) → has n t ≡ false → times n t ≡ 0
  times_none n Empty h = refl
  times_none n (Node k a below beside) h = grind (arith, nat_tests, or_parts, times_none n below (or_parts (has n below) (has n beside) (or_parts (k == n) (has n below || has n beside) h).1).0, times_none n beside (or_parts (has n below) (has n beside) (or_parts (k == n) (has n below || has n beside) h).1).1)

  pub times_some : (n : ℕ) (t : Forest A) → has n t ≡ true → 1 ≤ times n t
  times_some n Empty h = absurd (cc)
  times_some n (Node k a below beside) h = grind (arith, nat_tests, or_cases, times_some n below, times_some n beside)

  pub has_none : (n : ℕ) (t : Forest A) → times n t ≡ 0 → has n t ≡ false
  has_none n t h = false_from_ne_true (has n t) (λ e. omega (arith, times_some n t e))

  pub has_some : (n : ℕ) (t : Forest A) → 1 ≤ times n t → has n t ≡ true
  has_some n t h = grind (arith, nat_tests, cases_Bool, times_none)

  -- of a node whose forest has each number once, its number, what is below it and what is beside it are apart
  pub record Apart (k : ℕ) (below beside : Forest A) : Type 0 where
    pub once_below : Once below
    pub once_beside : Once beside
    pub not_below : has k below ≡ false
    pub not_beside : has k beside ≡ false
    pub apart : (n : ℕ) → has n below ≡ true → has n beside ≡ false
    pub apart_back : (n : ℕ) → has n beside ≡ true → has n below ≡ false

  pub apart_of : (k : ℕ) (a : A) (below beside : Forest A) → Once (Node k a below beside) → Apart k below beside
  apart_of k a below beside o = grind (arith, nat_tests, has_none, eq-eqb, times_some)

  -- where a number stands in a forest that has it once
  pub data Where (n k : ℕ) (below beside : Forest A) : Type 0 where
    Here : k ≡ n → (k == n) ≡ true → has n below ≡ false → has n beside ≡ false → Where n k below beside
    Below : k ≢ n → (k == n) ≡ false → has n below ≡ true → has n beside ≡ false → Where n k below beside
    Beside : k ≢ n → (k == n) ≡ false → has n below ≡ false → has n beside ≡ true → Where n k below beside

  pub where_is : (n k : ℕ) (a : A) (below beside : Forest A) → Once (Node k a below beside) → has n (Node k a below beside) ≡ true → Where n k below beside
  where_is n k a below beside o h = grind (arith, nat_tests, apart_of, cases_eq, eq-eqb, ne_eqb, or_cases)

  pub removed_absent : (n : ℕ) (t : Forest A) → has n t ≡ false → removed n t ≡ t
  removed_absent n Empty h = refl
  removed_absent n (Node k a below beside) h = grind (arith, nat_tests, or_parts, removed_absent n below (or_parts (has n below) (has n beside) (or_parts (k == n) (has n below || has n beside) h).1).0, removed_absent n beside (or_parts (has n below) (has n beside) (or_parts (k == n) (has n below || has n beside) h).1).1)

  pub put_absent : (p n : ℕ) (a : A) (sub t : Forest A) → has p t ≡ false → put p n a sub t ≡ t
  put_absent p n a sub Empty h = refl
  put_absent p n a sub (Node k b below beside) h = grind (arith, nat_tests, or_parts, put_absent p n a sub below (or_parts (has p below) (has p beside) (or_parts (k == p) (has p below || has p beside) h).1).0, put_absent p n a sub beside (or_parts (has p below) (has p beside) (or_parts (k == p) (has p below || has p beside) h).1).1)

  pub changed_absent : (n : ℕ) (f : A → A) (t : Forest A) → has n t ≡ false → changed n f t ≡ t
  changed_absent n f Empty h = refl
  changed_absent n f (Node k a below beside) h = grind (arith, nat_tests, or_parts, changed_absent n f below (or_parts (has n below) (has n beside) (or_parts (k == n) (has n below || has n beside) h).1).0, changed_absent n f beside (or_parts (has n below) (has n beside) (or_parts (k == n) (has n below || has n beside) h).1).1)

  pub at_absent : (n : ℕ) (t : Forest A) → has n t ≡ false → at n t ≡ None
  at_absent n Empty h = refl
  at_absent n (Node k a below beside) h = grind (arith, nat_tests, or_parts, at_absent n below (or_parts (has n below) (has n beside) (or_parts (k == n) (has n below || has n beside) h).1).0, at_absent n beside (or_parts (has n below) (has n beside) (or_parts (k == n) (has n below || has n beside) h).1).1)

  pub children_absent : (n : ℕ) (t : Forest A) → has n t ≡ false → children n t ≡ Empty
  children_absent n Empty h = refl
  children_absent n (Node k a below beside) h = grind (arith, nat_tests, or_parts, children_absent n beside (or_parts (has n below) (has n beside) (or_parts (k == n) (has n below || has n beside) h).1).1)

  pub first_put : (p n : ℕ) (a : A) (sub t : Forest A) → first (put p n a sub t) ≡ first t
  first_put p n a sub x4 = grind (arith, nat_tests)

  pub first_changed : (n : ℕ) (f : A → A) (t : Forest A) → first (changed n f t) ≡ first t
  first_changed n f x2 = grind (arith, nat_tests)

  pub first_removed : (n : ℕ) (t : Forest A) → (first t ≡ Some n → ⊥) → first (removed n t) ≡ first t
  first_removed n x1 h = grind (arith, nat_tests)

  pub has_first : (n : ℕ) (t : Forest A) → first t ≡ Some n → has n t ≡ true
  has_first n x1 h = grind (arith, nat_tests)

  -- sums over a forest in which a number stands once
  pub times_removed : (m n : ℕ) (t : Forest A) → Once t → has n t ≡ true → times m (removed n t) + ((if n == m then 1 else 0) + times m (children n t)) ≡ times m t
  times_removed m n Empty o h = absurd (cc)
  times_removed m n (Node k a below beside) o h = grind (arith, nat_tests, apart_of, where_is, removed_absent, times_removed m n below (apart_of k a below beside o).once_below, times_removed m n beside (apart_of k a below beside o).once_beside)

  pub size_removed : (n : ℕ) (t : Forest A) → Once t → has n t ≡ true → size (removed n t) + (1 + size (children n t)) ≡ size t
  size_removed n Empty o h = absurd (cc)
  size_removed n (Node k a below beside) o h = grind (arith, nat_tests, apart_of, where_is, removed_absent, size_removed n below (apart_of k a below beside o).once_below, size_removed n beside (apart_of k a below beside o).once_beside)

  pub times_put : (m p n : ℕ) (a : A) (sub t : Forest A) → Once t → has p t ≡ true → times m (put p n a sub t) ≡ times m t + ((if n == m then 1 else 0) + times m sub)
  times_put m p n a sub Empty o h = absurd (cc)
  times_put m p n a sub (Node k b below beside) o h = grind (arith, nat_tests, apart_of, where_is, put_absent, times_put m p n a sub below (apart_of k b below beside o).once_below, times_put m p n a sub beside (apart_of k b below beside o).once_beside)

  pub size_put : (p n : ℕ) (a : A) (sub t : Forest A) → Once t → has p t ≡ true → size (put p n a sub t) ≡ size t + (1 + size sub)
  size_put p n a sub Empty o h = absurd (cc)
  size_put p n a sub (Node k b below beside) o h = grind (arith, nat_tests, apart_of, where_is, put_absent, size_put p n a sub below (apart_of k b below beside o).once_below, size_put p n a sub beside (apart_of k b below beside o).once_beside)

  pub times_changed : (m n : ℕ) (f : A → A) (t : Forest A) → times m (changed n f t) ≡ times m t
  times_changed m n f Empty = refl
  times_changed m n f (Node k a below beside) = rw (times_changed m n f below, times_changed m n f beside) refl

  pub size_changed : (n : ℕ) (f : A → A) (t : Forest A) → size (changed n f t) ≡ size t
  size_changed n f Empty = refl
  size_changed n f (Node k a below beside) = rw (size_changed n f below, size_changed n f beside) refl

  pub has_changed : (m n : ℕ) (f : A → A) (t : Forest A) → has m (changed n f t) ≡ has m t
  has_changed m n f Empty = refl
  has_changed m n f (Node k a below beside) = rw (has_changed m n f below, has_changed m n f beside) refl

  pub at_some : (n : ℕ) (t : Forest A) → has n t ≡ true → (a : A) × (at n t ≡ Some a)
  at_some n Empty h = absurd (cc)
  at_some n (Node k a below beside) h =
      elim (cases_eq k n) [
        | inl e ↦ (a, rw (eq-eqb k n e) refl)
        | inr ne ↦
            let r : (has n below || has n beside) ≡ true = rw (ne_eqb k n ne) at h in
            elim (cases_Bool (has n below)) [
              | inl u ↦ let w = at_some n below u in (w.0, rw (ne_eqb k n ne, w.1) refl)
              | inr u ↦ let w = at_some n beside (rw u at r) in (w.0, rw (ne_eqb k n ne, at_absent n below u, w.1) refl)
            ]
      ]

  pub has_at : (n : ℕ) (t : Forest A) (a : A) → at n t ≡ Some a → has n t ≡ true
  has_at n t a h = grind (arith, nat_tests, cases_Bool, at_absent)

  -- a number below another one stands in the forest
  pub has_children : (m n : ℕ) (t : Forest A) → Once t → has m (children n t) ≡ true → has m t ≡ true
  has_children m n t o h = grind (arith, nat_tests, cases_Bool (has n t), has_some m t, times_removed m n t o, times_some m (children n t) h, children_absent n t, both_ways (has m (children n t)))

  -- a node with all below it moves in front of the children of another one, which isn't below it
  pub record Moves (n p : ℕ) (t : Forest A) : Type 0 where
    pub node : has n t ≡ true
    pub parent : has p t ≡ true
    pub other : p ≢ n
    pub apart : has p (children n t) ≡ false

  pub parent_stays : (n p : ℕ) (t : Forest A) → Once t → Moves n p t → has p (removed n t) ≡ true
  parent_stays n p t o w = grind (arith, nat_tests, ne_eqb, times_none, times_removed, has_some, times_some)

  pub once_removed : (n : ℕ) (t : Forest A) → Once t → has n t ≡ true → Once (removed n t)
  once_removed n t o h = record { once = λ m. omega (arith, o.once m, times_removed m n t o h) }

  pub once_put : (p n : ℕ) (a : A) (t : Forest A) → Once t → has p t ≡ true → has n t ≡ false → Once (put p n a Empty t)
  once_put p n a t o h new = grind (arith, nat_tests, cases_eq, times_put, eq-eqb, times_none, ne_eqb)

  pub once_front : (n : ℕ) (a : A) (t : Forest A) → Once t → has n t ≡ false → Once (Node n a Empty t)
  once_front n a t o new = grind (arith, nat_tests, cases_eq, eq-eqb, times_none, ne_eqb)

  pub once_changed : (n : ℕ) (f : A → A) (t : Forest A) → Once t → Once (changed n f t)
  once_changed n f t o = record { once = λ m. rw (times_changed m n f t) (o.once m) }

  -- the move of a node whose data this is
  pub times_moved : (m n p : ℕ) (a : A) (t : Forest A) → Once t → Moves n p t → times m (put p n a (children n t) (removed n t)) ≡ times m t
  times_moved m n p a t o w = grind (arith, nat_tests, times_put, once_removed, parent_stays, times_removed)

  pub once_moved : (n p : ℕ) (a : A) (t : Forest A) → Once t → Moves n p t → Once (put p n a (children n t) (removed n t))
  once_moved n p a t o w = record { once = λ m. rw (times_moved m n p a t o w) (o.once m) }

  pub size_moved : (n p : ℕ) (a : A) (t : Forest A) → Once t → Moves n p t → size (put p n a (children n t) (removed n t)) ≡ size t
  size_moved n p a t o w = grind (arith, nat_tests, size_put, once_removed, parent_stays, size_removed)

  -- the first child isn't the node itself
  pub first_child_other : (n : ℕ) (t : Forest A) → Once t → has n t ≡ true → has n (children n t) ≡ false
  first_child_other n t o h = grind (arith, nat_tests, eq-eqb n n refl, times_removed n n t o h, has_none n (children n t))

  pub removed_has : (n : ℕ) (t : Forest A) → Once t → has n t ≡ true → has n (removed n t) ≡ false
  removed_has n t o h = grind (arith, nat_tests, eq-eqb, times_removed, has_none)

  pub has_of_removed : (m n : ℕ) (t : Forest A) → has m (removed n t) ≡ true → has m t ≡ true
  has_of_removed m n Empty h = absurd (cc)
  has_of_removed m n (Node k a below beside) h = grind (arith, nat_tests, cases_Bool, or_cases, has_of_removed m n beside, has_of_removed m n below)

  -- what is left without a node is neither the node nor below it
  pub left_apart : (m n : ℕ) (t : Forest A) → Once t → has n t ≡ true → has m (removed n t) ≡ true → (m ≢ n) × (has m (children n t) ≡ false)
  left_apart m n t o h u = grind (arith, nat_tests, times_removed, both_ways, removed_has, has_none, times_some)

  -- without a node that has no children, every other one is there as before
  pub at_removed : (m n : ℕ) (t : Forest A) → Once t → m ≢ n → children n t ≡ Empty → at m (removed n t) ≡ at m t
  at_removed m n Empty o ne leaf = refl
  at_removed m n (Node k a below beside) o ne leaf = grind (arith, nat_tests, apart_of, cases_Bool, eqb-true, ne_eqb, removed_absent, at_removed m n below (apart_of k a below beside o).once_below ne, at_removed m n beside (apart_of k a below beside o).once_beside ne)
