-- What guarded forests with one root keep, and what stays in them where an unprotected node goes.
use Rattle.session_rules.proofs.Base.{◌≡◌, ◌≢◌, ℕ, Bool, true, false, Some, None, option_map_or, cases_Bool, eq-eqb, ne_eqb, both_ways, false_from_ne_true, arith, nat_tests}
use Rattle.session_rules.proofs.Below.{apart_of, at_absent, at_some, has_at, put_absent, children_absent, Forest, Empty, Node, has, Once, at, children, is_root, parent_of, put, removed, changed, moved, with_children, AllNodes, parent_root}
use Rattle.session_rules.proofs.Rules.{AreGuarded, IsRooted}
use Rattle.session_rules.proofs.Forests.{at_children}

module _ {A : Type 0} (P : A → Type 0) where
  pub all_removed : (n : ℕ) (t : Forest A) → AllNodes P t → AllNodes P (removed n t)
  all_removed n Empty h = tt
  all_removed n (Node k a below beside) h = grind (arith, all_removed n below h.1, all_removed n beside h.2)

  pub all_emptied : (n : ℕ) (t : Forest A) → AllNodes P t → AllNodes P (with_children n Empty t)
  all_emptied n Empty h = tt
  all_emptied n (Node k a below beside) h = grind (arith, all_emptied n below h.1, all_emptied n beside h.2)

  pub all_put : (p n : ℕ) (a : A) (sub t : Forest A) → P a → AllNodes P sub → AllNodes P t → AllNodes P (put p n a sub t)
  all_put p n a sub Empty x s h = tt
  all_put p n a sub (Node k b below beside) x s h = grind (arith, all_put p n a sub below x s h.1, all_put p n a sub beside x s h.2)

  pub all_changed : (n : ℕ) (f : A → A) (t : Forest A) → ((a : A) → P a → P (f a)) → AllNodes P t → AllNodes P (changed n f t)
  all_changed n f Empty keeps h = tt
  all_changed n f (Node k a below beside) keeps h = grind (arith, keeps a h.0, all_changed n f below keeps h.1, all_changed n f beside keeps h.2)

  pub all_children : (n : ℕ) (t : Forest A) → AllNodes P t → AllNodes P (children n t)
  all_children n Empty h = tt
  all_children n (Node k a below beside) h = grind (arith, all_children n below h.1, all_children n beside h.2)

  pub all_at : (n : ℕ) (t : Forest A) (a : A) → AllNodes P t → at n t ≡ Some a → P a
  all_at n Empty a h e = absurd (cc e)
  all_at n (Node k b below beside) a h e = grind (arith, at_some n below, at_absent n below, all_at n below a h.1, all_at n beside a h.2)

  pub all_moved : (n p : ℕ) (t : Forest A) → AllNodes P t → AllNodes P (moved n p t)
  all_moved n p t h = grind (arith, all_put p n, all_at n t, all_children n t h, all_removed n t h)

module _ {A : Type 0} (own : A → Bool) where
  abbrev pub Free : A → Type 0
  Free a = own a ≡ false

  -- whether the node of this number is protected
  abbrev pub is_own : ℕ → Forest A → Bool
  is_own n t = option_map_or own (at n t) false

  pub free_guarded : (t : Forest A) → AllNodes Free t → AreGuarded own t
  free_guarded Empty h = tt
  free_guarded (Node k a below beside) h = (λ _. h.1, free_guarded below h.1, free_guarded beside h.2)

  pub guarded_removed : (n : ℕ) (t : Forest A) → AreGuarded own t → AreGuarded own (removed n t)
  guarded_removed n Empty h = tt
  guarded_removed n (Node k a below beside) h = grind (arith, all_removed Free n below, guarded_removed n below h.1, guarded_removed n beside h.2)

  pub guarded_emptied : (n : ℕ) (t : Forest A) → AreGuarded own t → AreGuarded own (with_children n Empty t)
  guarded_emptied n Empty h = tt
  guarded_emptied n (Node k a below beside) h = grind (arith, all_emptied Free n below, guarded_emptied n below h.1, guarded_emptied n beside h.2)

  pub guarded_put : (p n : ℕ) (a : A) (sub t : Forest A) → own a ≡ false → AllNodes Free sub → AreGuarded own t → AreGuarded own (put p n a sub t)
  guarded_put p n a sub Empty x s h = tt
  guarded_put p n a sub (Node k b below beside) x s h = grind (arith, free_guarded sub s, all_put Free p n a sub below x s, guarded_put p n a sub below x s h.1, guarded_put p n a sub beside x s h.2)

  pub guarded_changed : (n : ℕ) (f : A → A) (t : Forest A) → ((a : A) → own (f a) ≡ own a) → AreGuarded own t → AreGuarded own (changed n f t)
  guarded_changed n f Empty keeps h = tt
  guarded_changed n f (Node k a below beside) keeps h = grind (arith, nat_tests, all_changed Free n f below, guarded_changed n f below keeps h.1, guarded_changed n f beside keeps h.2)

  -- where no node of a forest is protected, none that is protected stands in it
  pub free_lacks : (m : ℕ) (t : Forest A) → AllNodes Free t → is_own m t ≡ true → ⊥
  free_lacks m t h e = grind (arith, all_at Free m t)

  pub own_has : (m : ℕ) (t : Forest A) → is_own m t ≡ true → has m t ≡ true
  own_has m t e = grind (arith, at_absent m t)

  -- A protected node comes below a protected one.
  pub guarded_put_own : (p n : ℕ) (a : A) (t : Forest A) → Once t → is_own p t ≡ true → AreGuarded own t → AreGuarded own (put p n a Empty t)
  guarded_put_own p n a Empty o e h = tt
  guarded_put_own p n a (Node k b below beside) o e h = grind (arith, nat_tests, apart_of k b below beside o, at_some p below, at_absent p below, own_has p (Node k b below beside) e, put_absent p n a Empty below, put_absent p n a Empty beside, free_lacks p below, guarded_put_own p n a below, guarded_put_own p n a beside)

  -- all below an unprotected node is unprotected
  pub below_free : (n : ℕ) (t : Forest A) → AreGuarded own t → has n t ≡ true → is_own n t ≡ false → AllNodes Free (children n t)
  below_free n Empty h u e = tt
  below_free n (Node k a below beside) h u e = grind (arith, at_some n below, at_absent n below, below_free n below h.1, below_free n beside h.2)

  -- A protected node isn't an unprotected one, nor below it.
  pub own_apart : (m n : ℕ) (t : Forest A) → Once t → AreGuarded own t → is_own n t ≡ false → is_own m t ≡ true → (m ≢ n) × (has m (children n t) ≡ false)
  own_apart m n t o h e r = grind (arith, nat_tests, both_ways, both_ways (has m (children n t)), false_from_ne_true (has m (children n t)), cases_Bool (has n t), at_children m n t o, free_lacks m (children n t), below_free n t h, children_absent n t)

  -- the only root
  pub rooted_removed : (top n : ℕ) (t : Forest A) → n ≢ top → IsRooted own top t → IsRooted own top (removed n t)
  rooted_removed top n t ne h = grind (arith, nat_tests, ne_eqb)

  pub rooted_emptied : (top n : ℕ) (t : Forest A) → IsRooted own top t → IsRooted own top (with_children n Empty t)
  rooted_emptied top n t h = grind (arith, nat_tests)

  pub rooted_put : (top p n : ℕ) (a : A) (sub t : Forest A) → IsRooted own top t → IsRooted own top (put p n a sub t)
  rooted_put top p n a sub t h = grind (arith, nat_tests)

  pub rooted_changed : (top n : ℕ) (f : A → A) (t : Forest A) → ((a : A) → own (f a) ≡ own a) → IsRooted own top t → IsRooted own top (changed n f t)
  rooted_changed top n f t keeps h = grind (arith, nat_tests)

  pub rooted_moved : (top n p : ℕ) (t : Forest A) → n ≢ top → IsRooted own top t → IsRooted own top (moved n p t)
  rooted_moved top n p t ne h = grind (arith, rooted_put top p n, rooted_removed top n t ne h)

  pub guarded_moved : (n p : ℕ) (t : Forest A) → AreGuarded own t → is_own n t ≡ false → AreGuarded own (moved n p t)
  guarded_moved n p t h e = grind (arith, guarded_put p n, below_free n t h, has_at n t, guarded_removed n t h)

  -- what is known of that root
  pub top_own : (top : ℕ) (t : Forest A) → IsRooted own top t → is_own top t ≡ true
  top_own top t h = grind (arith, nat_tests, eq-eqb)

  pub top_root : (top : ℕ) (t : Forest A) → IsRooted own top t → is_root top t ≡ true
  top_root top t h = grind (arith, nat_tests, eq-eqb)

  pub top_parent : (top : ℕ) (t : Forest A) → Once t → IsRooted own top t → parent_of top t ≡ None
  top_parent top t o h = parent_root top t o (top_root top t h)

  pub all_gone : (top : ℕ) (t : Forest A) → IsRooted own top t → removed top t ≡ Empty
  all_gone top t h = grind (arith, nat_tests, eq-eqb)
