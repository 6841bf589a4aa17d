-- Forests with other data.
use Rattle.std.proofs.Common.{◌≡◌, ◌≢◌, ℕ, Some, refl, arith}
use Rattle.std.specs.Option.{option_map}
use Rattle.std.proofs.lemmas.Bool.{cases_Bool, ne_eqb, eqb-true}
use Rattle.forest.specs.Forest.{Forest, Empty, Node, has, times, Once, size, at, children, is_root, parent_of, put, removed, changed, moved, mapped}
use Rattle.forest.specs.Walk.{order, lead, follows}
use Rattle.forest.proofs.Trees.{apart_of, at_absent, at_some, has_at, changed_absent, has_changed}
use Rattle.std.proofs.lemmas.Bool.Decides.{nat_tests}

module _ {A B : Type 0} (f : A → B) where
  pub mapped-has : (n : ℕ) (t : Forest A) → has n (mapped f t) ≡ has n t
  mapped-has n Empty = refl
  mapped-has n (Node k a below beside) = rw (mapped-has n below, mapped-has n beside) refl

  pub mapped-times : (n : ℕ) (t : Forest A) → times n (mapped f t) ≡ times n t
  mapped-times n Empty = refl
  mapped-times n (Node k a below beside) = rw (mapped-times n below, mapped-times n beside) refl

  pub mapped-once : (t : Forest A) → Once t → Once (mapped f t)
  mapped-once t o = record { once = λ n. rw (mapped-times n t) (o.once n) }

  pub mapped-size : (t : Forest A) → size (mapped f t) ≡ size t
  mapped-size Empty = refl
  mapped-size (Node k a below beside) = rw (mapped-size below, mapped-size beside) refl

  pub mapped-put : (p n : ℕ) (a : A) (sub t : Forest A) → mapped f (put p n a sub t) ≡ put p n (f a) (mapped f sub) (mapped f t)
  mapped-put p n a sub Empty = refl
  mapped-put p n a sub (Node k b below beside) = grind (arith, nat_tests, cases_Bool, mapped-put p n a sub beside, mapped-put p n a sub below)

  pub mapped-removed : (n : ℕ) (t : Forest A) → mapped f (removed n t) ≡ removed n (mapped f t)
  mapped-removed n Empty = refl
  mapped-removed n (Node k a below beside) = grind (arith, nat_tests, cases_Bool, mapped-removed n beside, mapped-removed n below)

  pub mapped-changed : (n : ℕ) (g : A → A) (h : B → B) (t : Forest A) → ((a : A) → at n t ≡ Some a → f (g a) ≡ h (f a)) → Once t → mapped f (changed n g t) ≡ changed n h (mapped f t)
  mapped-changed n g h Empty e o = refl
  mapped-changed n g h (Node k a below beside) e o = grind (arith, nat_tests, apart_of, cases_Bool, eqb-true, changed_absent, has_at, mapped-has, at_absent, mapped-changed n g h below, mapped-changed n g h beside)

  pub mapped-at : (n : ℕ) (t : Forest A) → at n (mapped f t) ≡ option_map f (at n t)
  mapped-at n Empty = refl
  mapped-at n (Node k a below beside) = grind (arith, nat_tests, cases_Bool, mapped-at n below, mapped-at n beside)

  pub mapped-children : (n : ℕ) (t : Forest A) → mapped f (children n t) ≡ children n (mapped f t)
  mapped-children n Empty = refl
  mapped-children n (Node k a below beside) = grind (arith, nat_tests, cases_Bool, mapped-has, mapped-children n below, mapped-children n beside)

  pub mapped-moved : (n p : ℕ) (t : Forest A) → mapped f (moved n p t) ≡ moved n p (mapped f t)
  mapped-moved n p t = grind (arith, nat_tests, mapped-at, mapped-put, mapped-children, mapped-removed)

  pub mapped-root : (n : ℕ) (t : Forest A) → is_root n (mapped f t) ≡ is_root n t
  mapped-root n Empty = refl
  mapped-root n (Node k a below beside) = rw (mapped-root n beside) refl

  pub mapped-parent : (n : ℕ) (t : Forest A) → parent_of n (mapped f t) ≡ parent_of n t
  mapped-parent n Empty = refl
  mapped-parent n (Node k a below beside) = grind (arith, nat_tests, mapped-root, mapped-has, mapped-parent n below, mapped-parent n beside)

  pub mapped-order : (t : Forest A) → order (mapped f t) ≡ order t
  mapped-order Empty = refl
  mapped-order (Node k a below beside) = rw (mapped-order below, mapped-order beside) refl

  pub mapped-lead : (up : ℕ) (t : Forest A) → lead up (mapped f t) ≡ lead up t
  mapped-lead up Empty = refl
  mapped-lead up (Node k a below beside) = mapped-lead k below

  pub mapped-follows : (m up : ℕ) (t : Forest A) → follows m up (mapped f t) ≡ follows m up t
  mapped-follows m up Empty = refl
  mapped-follows m up (Node k a below beside) = grind (arith, nat_tests, mapped-has, mapped-lead, mapped-follows m k below, mapped-follows m up beside)

module _ {A : Type 0} where
  -- what a change of a node's data leaves
  pub parent_changed : (m n : ℕ) (f : A → A) (t : Forest A) → parent_of m (changed n f t) ≡ parent_of m t
  parent_changed m n f Empty = refl
  parent_changed m n f (Node k a below beside) =
      rw (root_changed m n f below, has_changed m n f below, parent_changed m n f below, parent_changed m n f beside) refl
    where
      root_changed : (m n : ℕ) (f : A → A) (t : Forest A) → is_root m (changed n f t) ≡ is_root m t
      root_changed m n f Empty = refl
      root_changed m n f (Node k a below beside) = rw (root_changed m n f beside) refl

  pub at_changed_other : (m n : ℕ) (f : A → A) (t : Forest A) → m ≢ n → at m (changed n f t) ≡ at m t
  at_changed_other m n f Empty ne = refl
  at_changed_other m n f (Node k a below beside) ne = grind (arith, nat_tests, cases_Bool, ne_eqb, eqb-true, at_changed_other m n f below ne, at_changed_other m n f beside ne)

  pub at_changed : (n : ℕ) (f : A → A) (t : Forest A) (a : A) → at n t ≡ Some a → at n (changed n f t) ≡ Some (f a)
  at_changed n f Empty a h = absurd (cc)
  at_changed n f (Node k b below beside) a h = grind (arith, nat_tests, cases_Bool, at_some, at_absent, has_changed, at_changed n f below a, at_changed n f beside a)
