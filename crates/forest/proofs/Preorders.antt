-- What the walks come to that come to each node before its children.
use Rattle.std.proofs.Common.{◌≡◌, ℕ, ◌+◌, ◌<◌, ◌≤◌, true, false, length, length-append, Some, None, [], ◌∷◌, ◌++◌, refl, ap, ◌∙◌, arith, append_assoc}
use Rattle.std.specs.Prelude.{◌==◌}
use Rattle.std.proofs.lemmas.Bool.{eq-eqb, ne_eqb, cases_Bool, both_ways, false_from_ne_true}
use Rattle.forest.specs.Forest.{Forest, Empty, Node, has, Once, size, at, first, children, next_of, is_root, parent_of, is_above}
use Rattle.forest.specs.Preorder.{Visited, preorder, level, from_node, behind_node, left_from, left_behind}
use Rattle.forest.proofs.Trees.{apart_of, where_is, at_absent, at_some, has_at, has_first, has_children}
use Rattle.forest.proofs.Neighbours.{root_has, root_absent, parent_absent}
use Rattle.forest.proofs.Walks.{next_has, parent_has}
use Rattle.std.proofs.lemmas.Bool.Decides.{nat_tests}

module _ {A : Type 0} where
  abbrev visit : ℕ → ℕ → A → Visited A
  visit depth n a = record { depth = depth; number = n; value = a }

  other : (k m : ℕ) (t : Forest A) → has m t ≡ true → has k t ≡ false → (k == m) ≡ false
  other k m t h u = ne_eqb k m (λ e. both_ways (has k t) u (ap (λ (x : ℕ). has x t) e ∙ h))

  -- the walk of a whole forest begins at its first node
  pub head_from : (depth b : ℕ) (t : Forest A) → first t ≡ Some b → (from_node depth b t ≡ preorder depth t) × (level depth b t ≡ depth)
  head_from depth b x2 q = grind (arith, nat_tests)

  pub head_none : (depth : ℕ) (t : Forest A) → first t ≡ None → preorder depth t ≡ []
  head_none depth x1 q = grind (arith, nat_tests)

  -- at a node it comes to that one, then to what is below it, and then to what is behind
  pub comes_to : (depth n : ℕ) (a : A) (t : Forest A) → Once t → at n t ≡ Some a
      → from_node depth n t ≡ record { depth = level depth n t; number = n; value = a } ∷ (preorder (level depth n t + 1) (children n t) ++ behind_node depth n t)
  comes_to depth n a Empty o q = absurd (cc q)
  comes_to depth n a (Node k b below beside) o q = grind (arith, nat_tests, apart_of, where_is, has_at, append_assoc, at_absent, comes_to (depth + 1) n a below (apart_of k b below beside o).once_below, comes_to depth n a beside (apart_of k b below beside o).once_beside)

  -- from a node it goes on to its first child
  pub goes_down : (depth n c : ℕ) (t : Forest A) → Once t → has n t ≡ true → first (children n t) ≡ Some c
      → (preorder (level depth n t + 1) (children n t) ++ behind_node depth n t ≡ from_node depth c t) × (level depth c t ≡ level depth n t + 1)
  goes_down depth n c Empty o h q = absurd (cc q)
  goes_down depth n c (Node k a below beside) o h q = grind (arith, nat_tests, apart_of k a below beside o, where_is n k a below beside o h, has_first c below, has_first c (children n beside), has_first c (children n below), head_from (depth + 1) c below, other k c below, other k c beside, has_children c n beside (apart_of k a below beside o).once_beside, has_children c n below (apart_of k a below beside o).once_below, goes_down (depth + 1) n c below (apart_of k a below beside o).once_below, goes_down depth n c beside (apart_of k a below beside o).once_beside, append_assoc (preorder (level (depth + 1) n below + 1) (children n below)) (behind_node (depth + 1) n below) (preorder depth beside))

  -- behind it, to its next sibling
  pub goes_across : (depth n b : ℕ) (t : Forest A) → Once t → has n t ≡ true → next_of n t ≡ Some b
      → (behind_node depth n t ≡ from_node depth b t) × (level depth b t ≡ level depth n t)
  goes_across depth n b Empty o h q = absurd (cc q)
  goes_across depth n b (Node k a below beside) o h q = grind (arith, nat_tests, apart_of, where_is, has_first, head_from, other, next_has, goes_across (depth + 1) n b below (apart_of k a below beside o).once_below, goes_across depth n b beside (apart_of k a below beside o).once_beside)

  -- a root without a next sibling has nothing behind it
  pub root_ends : (depth n : ℕ) (t : Forest A) → Once t → is_root n t ≡ true → next_of n t ≡ None → (behind_node depth n t ≡ []) × (level depth n t ≡ depth)
  root_ends depth n Empty o h q = absurd (cc h)
  root_ends depth n (Node k a below beside) o h q = grind (arith, nat_tests, apart_of, where_is, root_has, head_none, both_ways, root_absent, root_ends depth n beside (apart_of k a below beside o).once_beside)

  -- where there is none, what is behind its parent comes
  pub goes_up : (depth n p : ℕ) (t : Forest A) → Once t → has n t ≡ true → next_of n t ≡ None → parent_of n t ≡ Some p
      → (behind_node depth n t ≡ behind_node depth p t) × (level depth n t ≡ level depth p t + 1) × (has p t ≡ true)
  goes_up depth n p Empty o h q r = absurd (cc h)
  goes_up depth n p (Node k a below beside) o h q r = grind (arith, nat_tests, apart_of, where_is, root_absent, parent_absent, cases_Bool, root_ends, eq-eqb, other, goes_up depth n p beside (apart_of k a below beside o).once_beside, goes_up (depth + 1) n p below (apart_of k a below beside o).once_below)

  -- and where that is a root too, nothing
  pub ends : (depth n : ℕ) (t : Forest A) → Once t → has n t ≡ true → next_of n t ≡ None → parent_of n t ≡ None → behind_node depth n t ≡ []
  ends depth n t o h q r = grind (arith, nat_tests, cases_Bool, root_ends, parent_has)

  -- a node stands less deep than there are nodes
  pub level_small : (depth n : ℕ) (t : Forest A) → Once t → has n t ≡ true → level depth n t < depth + size t
  level_small depth n Empty o h = absurd (cc h)
  level_small depth n (Node k a below beside) o h = grind (arith, nat_tests, apart_of, where_is, level_small (depth + 1) n below (apart_of k a below beside o).once_below, level_small depth n beside (apart_of k a below beside o).once_beside)

  level_least : (depth n : ℕ) (t : Forest A) → depth ≤ level depth n t
  level_least depth n Empty = omega arith
  level_least depth n (Node k a below beside) = grind (arith, nat_tests, cases_Bool, level_least (depth + 1) n below, level_least depth n beside)

  -- what is below a node stands deeper, by no more levels than there are nodes below it
  pub level_below : (depth m n : ℕ) (t : Forest A) → Once t → has m (children n t) ≡ true
      → (level depth n t < level depth m t) × (level depth m t ≤ level depth n t + size (children n t))
  level_below depth m n Empty o h = absurd (cc h)
  level_below depth m n (Node k a below beside) o h = grind (arith, nat_tests, apart_of, cases_Bool, other, level_least, level_small, has_children, level_below (depth + 1) m n below (apart_of k a below beside o).once_below, level_below depth m n beside (apart_of k a below beside o).once_beside)

  preorder_size : (depth : ℕ) (t : Forest A) → length (preorder depth t) ≡ size t
  preorder_size depth Empty = refl
  preorder_size depth (Node k a below beside) = grind (arith, nat_tests, length-append, preorder_size (depth + 1) below, preorder_size depth beside)

  -- at a node it is left, with all below it and what is behind
  pub left_there : (n : ℕ) (t : Forest A) → Once t → has n t ≡ true → left_from n t ≡ 1 + (size (children n t) + left_behind n t)
  left_there n t o h = grind (arith, nat_tests, at_some, comes_to, length-append, preorder_size)

  -- and behind it with what is left at its first child, or, where it has none, with what is behind
  pub left_down : (n c : ℕ) (t : Forest A) → Once t → has n t ≡ true → first (children n t) ≡ Some c → left_from n t ≡ 1 + left_from c t
  left_down n c t o h q = grind (arith, nat_tests, at_some, comes_to, goes_down)

  pub left_leaf : (n : ℕ) (t : Forest A) → Once t → has n t ≡ true → first (children n t) ≡ None → left_from n t ≡ 1 + left_behind n t
  left_leaf n t o h q = grind (arith, nat_tests, at_some, comes_to, length-append, head_none)

  -- A walk up from one node and one over all below another one: where the second ends first, the one isn't below the
  -- other.
  pub ends_first : (m n last seen : ℕ) (t : Forest A) → Once t → has n t ≡ true
      → is_above n last t ≡ is_above n m t → left_from n t + level 0 last t ≡ left_from seen t + level 0 m t
      → left_from seen t ≤ 1 + left_behind n t → is_above n m t ≡ false
  ends_first m n last seen t o h same count left = grind (arith, nat_tests, false_from_ne_true (is_above n m t), left_there n t o h, level_below 0 m n t o, level_below 0 last n t o)
