-- Forests of which a node with all below it moves, and the nodes above a node.
use Rattle.std.proofs.Common.{◌≡◌, ◌≢◌, ℕ, ◌+◌, true, false, Option, Some, None, refl, ap, ◌∙◌, arith}
use Rattle.std.specs.Prelude.{◌==◌}
use Rattle.std.proofs.lemmas.Bool.{cases_eq, cases_Bool, eq-eqb, ne_eqb, eqb-true, both_ways, false_from_ne_true}
use Rattle.forest.specs.Forest.{Forest, Empty, Node, either, has, Once, at, children, is_root, parent_of, is_above, put, removed, moved}
use Rattle.forest.specs.Preorder.{level}
use Rattle.forest.proofs.Trees.{apart_of, where_is, at_absent, at_some, has_at, put_absent, removed_absent, children_absent, has_children, Moves, once_removed, parent_stays, removed_has, left_apart}
use Rattle.forest.proofs.Neighbours.{root_has}
use Rattle.forest.proofs.Walks.{children_in, once_children, parent_in}
use Rattle.std.proofs.lemmas.Bool.Decides.{nat_tests}

module _ {A : Type 0} where
  other : (k m : ℕ) (t : Forest A) → has m t ≡ true → has k t ≡ false → (k == m) ≡ false
  other k m t h u = ne_eqb k m (λ e. both_ways (has k t) u (ap (λ (x : ℕ). has x t) e ∙ h))

  none_right : (o : Option A) → either o None ≡ o
  none_right x0 = grind (arith, nat_tests)

  -- the node that is put in
  at_put : (p n : ℕ) (a : A) (sub t : Forest A) → Once t → has p t ≡ true → has n t ≡ false → at n (put p n a sub t) ≡ Some a
  at_put p n a sub Empty o h u = absurd (cc h)
  at_put p n a sub (Node k b below beside) o h u = grind (arith, nat_tests, apart_of, cases_Bool, where_is, eq-eqb, put_absent, at_absent, at_put p n a sub below (apart_of k b below beside o).once_below, at_put p n a sub beside (apart_of k b below beside o).once_beside)

  -- what is below it
  at_put_below : (m p n : ℕ) (a : A) (sub t : Forest A) → Once t → has p t ≡ true → m ≢ n → has m t ≡ false → at m (put p n a sub t) ≡ at m sub
  at_put_below m p n a sub Empty o h ne u = absurd (cc h)
  at_put_below m p n a sub (Node k b below beside) o h ne u = grind (arith, nat_tests, apart_of, where_is, ne_eqb, put_absent, at_absent, none_right, at_put_below m p n a sub below (apart_of k b below beside o).once_below, at_put_below m p n a sub beside (apart_of k b below beside o).once_beside)

  -- and what was there
  at_put_other : (m p n : ℕ) (a : A) (sub t : Forest A) → m ≢ n → has m sub ≡ false → at m (put p n a sub t) ≡ at m t
  at_put_other m p n a sub Empty ne u = refl
  at_put_other m p n a sub (Node k b below beside) ne u = grind (arith, nat_tests, cases_Bool, ne_eqb, at_absent, at_put_other m p n a sub beside ne u, at_put_other m p n a sub below ne u)

  -- what isn't below a node stays where that one goes
  at_left : (m n : ℕ) (t : Forest A) → Once t → m ≢ n → has m (children n t) ≡ false → at m (removed n t) ≡ at m t
  at_left m n Empty o ne u = refl
  at_left m n (Node k a below beside) o ne u = grind (arith, nat_tests, apart_of, cases_Bool, eqb-true, ne_eqb, at_absent, removed_absent, at_left m n below (apart_of k a below beside o).once_below ne, at_left m n beside (apart_of k a below beside o).once_beside ne)

  -- the data of what is below a node
  pub at_children : (m n : ℕ) (t : Forest A) → Once t → has m (children n t) ≡ true → at m (children n t) ≡ at m t
  at_children m n Empty o h = refl
  at_children m n (Node k a below beside) o h = grind (arith, nat_tests, apart_of, at_some, other, cases_Bool, has_children, at_absent, at_children m n below (apart_of k a below beside o).once_below, at_children m n beside (apart_of k a below beside o).once_beside)

  at_swapped : (m n p : ℕ) (a : A) (t : Forest A) → Once t → Moves n p t → at n t ≡ Some a → at m (put p n a (children n t) (removed n t)) ≡ at m t
  at_swapped m n p a t o w q = grind (arith, nat_tests, once_removed, parent_stays, cases_eq, at_put, removed_has, cases_Bool, at_put_below, at_children, at_put_other, at_left, false_from_ne_true, both_ways, left_apart)

  -- a move leaves each node its data
  pub at_moved : (m n p : ℕ) (t : Forest A) → Once t → Moves n p t → at m (moved n p t) ≡ at m t
  at_moved m n p t o w = let a = at_some n t w.node in rw a.1 (at_swapped m n p a.0 t o w a.1)

  -- a sum over all nodes
  abbrev pub sum_of : (A → ℕ) → Forest A → ℕ
  sum_of f Empty = 0
  sum_of f (Node k a below beside) = f a + (sum_of f below + sum_of f beside)

  sum_removed : (f : A → ℕ) (n : ℕ) (a : A) (t : Forest A) → Once t → at n t ≡ Some a → sum_of f (removed n t) + (f a + sum_of f (children n t)) ≡ sum_of f t
  sum_removed f n a Empty o q = absurd (cc q)
  sum_removed f n a (Node k b below beside) o q = grind (arith, nat_tests, apart_of, where_is, has_at, removed_absent, at_absent, none_right, sum_removed f n a below (apart_of k b below beside o).once_below, sum_removed f n a beside (apart_of k b below beside o).once_beside)

  sum_put : (f : A → ℕ) (p n : ℕ) (a : A) (sub t : Forest A) → Once t → has p t ≡ true → sum_of f (put p n a sub t) ≡ sum_of f t + (f a + sum_of f sub)
  sum_put f p n a sub Empty o h = absurd (cc h)
  sum_put f p n a sub (Node k b below beside) o h = grind (arith, nat_tests, apart_of, where_is, put_absent, sum_put f p n a sub below (apart_of k b below beside o).once_below, sum_put f p n a sub beside (apart_of k b below beside o).once_beside)

  -- a move leaves sums as they are
  pub sum_moved : (f : A → ℕ) (n p : ℕ) (t : Forest A) → Once t → Moves n p t → sum_of f (moved n p t) ≡ sum_of f t
  sum_moved f n p t o w = grind (arith, nat_tests, at_some, sum_put, once_removed, parent_stays, sum_removed)

  -- what has a node below it is there
  pub above_has : (m q : ℕ) (t : Forest A) → has m (children q t) ≡ true → has q t ≡ true
  above_has m q t h = grind (arith, nat_tests, cases_Bool, children_absent, both_ways)

  -- a node is below its parent
  pub below_parent : (m q : ℕ) (t : Forest A) → Once t → parent_of m t ≡ Some q → has m (children q t) ≡ true
  below_parent m q Empty o r = absurd (cc r)
  below_parent m q (Node k a below beside) o r = grind (arith, nat_tests, apart_of, cases_Bool, eq-eqb, root_has, above_has, other, below_parent m q below (apart_of k a below beside o).once_below, below_parent m q beside (apart_of k a below beside o).once_beside)

  -- what is below a node and all that is below that
  pub below_below : (m q n : ℕ) (t : Forest A) → Once t → has m (children q t) ≡ true → has q (children n t) ≡ true → has m (children n t) ≡ true
  below_below m q n t o h i = grind (arith, nat_tests, has_children, once_children, children_in)

  -- A node with a parent is below another one where that is the parent or the parent is below it.
  pub above_by_parent : (m q n : ℕ) (t : Forest A) → Once t → parent_of m t ≡ Some q → q ≢ n → is_above n m t ≡ is_above n q t
  above_by_parent m q n t o r ne = grind (arith, nat_tests, cases_Bool (has m (children n t)), parent_in m n t o, false_from_ne_true (has q (children n t)), both_ways (has m (children n t)), below_below m q n t o (below_parent m q t o r), below_parent m q t o r, below_parent m q (children n t) (once_children n t o), above_has m q (children n t), once_children n t o)

  -- a root is below nothing
  pub above_none : (m n : ℕ) (t : Forest A) → Once t → parent_of m t ≡ None → is_above n m t ≡ false
  above_none m n t o r = grind (arith, nat_tests, false_from_ne_true (has m (children n t)), parent_in m n t o)

  root_level : (depth n : ℕ) (t : Forest A) → Once t → is_root n t ≡ true → level depth n t ≡ depth
  root_level depth n Empty o h = refl
  root_level depth n (Node k a below beside) o h = grind (arith, nat_tests, apart_of, cases_Bool, root_has, root_level depth n beside (apart_of k a below beside o).once_beside)

  -- a node stands one level below its parent
  pub level_up : (depth n p : ℕ) (t : Forest A) → Once t → parent_of n t ≡ Some p → level depth n t ≡ level depth p t + 1
  level_up depth n p Empty o r = absurd (cc r)
  level_up depth n p (Node k a below beside) o r = grind (arith, nat_tests, apart_of k a below beside o, cases_Bool (is_root n below), cases_Bool (has n below), root_has n below, other k n below, other k p below, other k n beside, other k p beside, eq-eqb k p, root_level (depth + 1) n below (apart_of k a below beside o).once_below, above_has n p below, above_has n p beside, below_parent n p below (apart_of k a below beside o).once_below, below_parent n p beside (apart_of k a below beside o).once_beside, level_up (depth + 1) n p below (apart_of k a below beside o).once_below, level_up depth n p beside (apart_of k a below beside o).once_beside, has_children n p beside (apart_of k a below beside o).once_beside)
