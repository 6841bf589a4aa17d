-- Where a node stands in a forest in which others go or come: what is apart from them keeps its data and its parent.
use Rattle.session_rules.proofs.Base.{◌≡◌, ◌≢◌, ℕ, ◌+◌, true, false, Some, refl, ap, ◌∙◌, arith, ◌==◌, cases_Bool, ne_eqb, both_ways, nat_tests}
use Rattle.session_rules.proofs.Below.{Forest, Empty, Node, has, times, Once, at, children, is_root, parent_of, put, removed, with_children, subtree, changed, sum_of, children_absent, apart_of, times_none, times_some, has_none, has_some, at_absent, at_some, has_at, put_absent, removed_absent, has_children, times_removed, changed_absent, root_absent}

module _ {A : Type 0} where
  other : (k m : ℕ) (t : Forest A) → has m t ≡ true → has k t ≡ false → (k == m) ≡ false
  other k m t h u = ne_eqb k m (λ e. both_ways (has k t) u (ap (λ (x : ℕ). has x t) e ∙ h))

  -- a node goes with all below it
  pub root_left : (m n : ℕ) (t : Forest A) → m ≢ n → is_root m (removed n t) ≡ is_root m t
  root_left m n Empty ne = refl
  root_left m n (Node k a below beside) ne = grind (arith, nat_tests, root_left m n beside ne)

  pub has_left : (m n : ℕ) (t : Forest A) → Once t → m ≢ n → has m (children n t) ≡ false → has m (removed n t) ≡ has m t
  has_left m n Empty o ne u = refl
  has_left m n (Node k a below beside) o ne u = grind (arith, nat_tests, apart_of k a below beside o, removed_absent n below, removed_absent n beside, has_left m n below, has_left m n beside)

  pub parent_left : (m n : ℕ) (t : Forest A) → Once t → m ≢ n → has m (children n t) ≡ false → parent_of m (removed n t) ≡ parent_of m t
  parent_left m n Empty o ne u = refl
  parent_left m n (Node k a below beside) o ne u = grind (arith, nat_tests, apart_of k a below beside o, root_absent m below, root_left m n below ne, removed_absent n below, removed_absent n beside, has_left m n below, parent_left m n below, parent_left m n beside)

  pub once_left : (n : ℕ) (t : Forest A) → Once t → Once (removed n t)
  once_left n t o = grind (arith, nat_tests, times_removed, removed_absent n t)

  -- all below a node goes
  pub emptied_absent : (n : ℕ) (new t : Forest A) → has n t ≡ false → with_children n new t ≡ t
  emptied_absent n new Empty h = refl
  emptied_absent n new (Node k a below beside) h = grind (arith, emptied_absent n new below, emptied_absent n new beside)

  pub root_emptied : (m n : ℕ) (t : Forest A) → is_root m (with_children n Empty t) ≡ is_root m t
  root_emptied m n Empty = refl
  root_emptied m n (Node k a below beside) = rw (root_emptied m n beside) refl

  pub times_emptied : (m n : ℕ) (t : Forest A) → Once t → times m (with_children n Empty t) + times m (children n t) ≡ times m t
  times_emptied m n Empty o = refl
  times_emptied m n (Node k a below beside) o = grind (arith, nat_tests, apart_of k a below beside o, emptied_absent n Empty below, emptied_absent n Empty beside, times_emptied m n below, times_emptied m n beside)

  pub once_emptied : (n : ℕ) (t : Forest A) → Once t → Once (with_children n Empty t)
  once_emptied n t o = record { once = λ m. omega (arith, o.once m, times_emptied m n t o) }

  pub has_emptied : (m n : ℕ) (t : Forest A) → Once t → has m (children n t) ≡ false → has m (with_children n Empty t) ≡ has m t
  has_emptied m n t o u = grind (arith, nat_tests, cases_Bool (has m t), has_some m (with_children n Empty t), times_emptied m n t o, times_none m (children n t) u, times_none m t, times_some m t, has_none m (with_children n Empty t))

  pub at_emptied : (m n : ℕ) (t : Forest A) → Once t → has m (children n t) ≡ false → at m (with_children n Empty t) ≡ at m t
  at_emptied m n Empty o u = refl
  at_emptied m n (Node k a below beside) o u = grind (arith, nat_tests, apart_of k a below beside o, at_absent m below, emptied_absent n Empty below, emptied_absent n Empty beside, at_emptied m n below, at_emptied m n beside)

  pub parent_emptied : (m n : ℕ) (t : Forest A) → Once t → has m (children n t) ≡ false → parent_of m (with_children n Empty t) ≡ parent_of m t
  parent_emptied m n Empty o u = refl
  parent_emptied m n (Node k a below beside) o u = grind (arith, nat_tests, apart_of k a below beside o, root_absent m below, emptied_absent n Empty below, emptied_absent n Empty beside, root_emptied m n below, has_emptied m n below, parent_emptied m n below, parent_emptied m n beside)

  -- a node comes, with what is below it
  pub root_put : (m p n : ℕ) (a : A) (sub t : Forest A) → is_root m (put p n a sub t) ≡ is_root m t
  root_put m p n a sub Empty = refl
  root_put m p n a sub (Node k b below beside) = rw (root_put m p n a sub beside) refl

  pub has_put_other : (m p n : ℕ) (a : A) (sub t : Forest A) → m ≢ n → has m sub ≡ false → has m (put p n a sub t) ≡ has m t
  has_put_other m p n a sub Empty ne u = refl
  has_put_other m p n a sub (Node k b below beside) ne u = grind (arith, nat_tests, has_put_other m p n a sub below ne u, has_put_other m p n a sub beside ne u)

  pub at_put_other : (m p n : ℕ) (a : A) (sub t : Forest A) → m ≢ n → has m sub ≡ false → at m (put p n a sub t) ≡ at m t
  at_put_other m p n a sub Empty ne u = refl
  at_put_other m p n a sub (Node k b below beside) ne u = grind (arith, nat_tests, at_absent m sub u, at_put_other m p n a sub below ne u, at_put_other m p n a sub beside ne u)

  pub parent_put_other : (m p n : ℕ) (a : A) (sub t : Forest A) → m ≢ n → has m sub ≡ false → parent_of m (put p n a sub t) ≡ parent_of m t
  parent_put_other m p n a sub Empty ne u = refl
  parent_put_other m p n a sub (Node k b below beside) ne u = grind (arith, nat_tests, root_absent m sub u, root_put m p n a sub below, has_put_other m p n a sub below ne u, parent_put_other m p n a sub below ne u, parent_put_other m p n a sub beside ne u)

  -- the node that comes, and what is below it
  pub at_put : (p n : ℕ) (a : A) (sub t : Forest A) → Once t → has p t ≡ true → has n t ≡ false → at n (put p n a sub t) ≡ Some a
  at_put p n a sub Empty o h u = absurd (cc h)
  at_put p n a sub (Node k b below beside) o h u = grind (arith, nat_tests, apart_of k b below beside o, put_absent p n a sub below, at_absent n below, at_put p n a sub below, at_put p n a sub beside)

  pub children_put : (p n : ℕ) (a : A) (sub t : Forest A) → Once t → has p t ≡ true → has n t ≡ false → children n (put p n a sub t) ≡ sub
  children_put p n a sub Empty o h u = absurd (cc h)
  children_put p n a sub (Node k b below beside) o h u = grind (arith, nat_tests, apart_of k b below beside o, put_absent p n a sub below, has_at n (put p n a sub below) a, at_put p n a sub below, children_put p n a sub below, children_put p n a sub beside)

  pub parent_put : (p n : ℕ) (a : A) (sub t : Forest A) → Once t → has p t ≡ true → has n t ≡ false → parent_of n (put p n a sub t) ≡ Some p
  parent_put p n a sub Empty o h u = absurd (cc h)
  parent_put p n a sub (Node k b below beside) o h u = grind (arith, nat_tests, apart_of k b below beside o, put_absent p n a sub below, root_put n p n a sub below, root_absent n below, has_at n (put p n a sub below) a, at_put p n a sub below, parent_put p n a sub below, parent_put p n a sub beside)

  -- what isn't below a node stays where that one goes
  pub at_left : (m n : ℕ) (t : Forest A) → Once t → m ≢ n → has m (children n t) ≡ false → at m (removed n t) ≡ at m t
  at_left m n Empty o ne u = refl
  at_left m n (Node k a below beside) o ne u = grind (arith, nat_tests, apart_of k a below beside o, at_absent m below, removed_absent n below, removed_absent n beside, at_left m n below, at_left m n beside)

  -- the data of what is below a node
  pub at_children : (m n : ℕ) (t : Forest A) → Once t → has m (children n t) ≡ true → at m (children n t) ≡ at m t
  at_children m n Empty o h = refl
  at_children m n (Node k a below beside) o h = grind (arith, nat_tests, apart_of k a below beside o, at_absent m below, at_some m below, has_children m n below, has_children m n beside, at_children m n below, at_children m n beside)

module _ {A : Type 0} (g : A → ℕ) where
  sum_removed : (n : ℕ) (a : A) (t : Forest A) → Once t → at n t ≡ Some a → sum_of g (removed n t) + (g a + sum_of g (children n t)) ≡ sum_of g t
  sum_removed n a Empty o q = absurd (cc q)
  sum_removed n a (Node k b below beside) o q = grind (arith, nat_tests, apart_of k b below beside o, removed_absent n below, removed_absent n beside, at_some n below, at_absent n below, sum_removed n a below, sum_removed n a beside)

  -- what goes and what is left make up the whole
  pub sum_left : (n : ℕ) (t : Forest A) → Once t → sum_of g (removed n t) + sum_of g (subtree n t) ≡ sum_of g t
  sum_left n t o = grind (arith, at_some n t, removed_absent n t, children_absent n t, λ (a : A). sum_removed n a t o)

  pub sum_emptied : (n : ℕ) (t : Forest A) → Once t → sum_of g (with_children n Empty t) + sum_of g (children n t) ≡ sum_of g t
  sum_emptied n Empty o = refl
  sum_emptied n (Node k a below beside) o = grind (arith, nat_tests, apart_of k a below beside o, emptied_absent n Empty below, emptied_absent n Empty beside, sum_emptied n below, sum_emptied n beside)

  pub sum_put : (p n : ℕ) (a : A) (sub t : Forest A) → Once t → has p t ≡ true → sum_of g (put p n a sub t) ≡ sum_of g t + (g a + sum_of g sub)
  sum_put p n a sub Empty o h = absurd (cc h)
  sum_put p n a sub (Node k b below beside) o h = grind (arith, nat_tests, apart_of k b below beside o, put_absent p n a sub below, put_absent p n a sub beside, sum_put p n a sub below, sum_put p n a sub beside)

  pub sum_changed : (n : ℕ) (f : A → A) (a : A) (t : Forest A) → Once t → at n t ≡ Some a → sum_of g (changed n f t) + g a ≡ sum_of g t + g (f a)
  sum_changed n f a Empty o h = absurd (cc h)
  sum_changed n f a (Node k b below beside) o h = grind (arith, nat_tests, apart_of k b below beside o, at_some n below, at_absent n below, changed_absent n f below, changed_absent n f beside, sum_changed n f a below, sum_changed n f a beside)

  -- a change that leaves the summand
  pub sum_same : (n : ℕ) (f : A → A) (t : Forest A) → ((a : A) → g (f a) ≡ g a) → sum_of g (changed n f t) ≡ sum_of g t
  sum_same n f Empty same = refl
  sum_same n f (Node k a below beside) same = grind (arith, same a, sum_same n f below same, sum_same n f beside same)
