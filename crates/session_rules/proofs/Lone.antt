-- What is below a node behind a change elsewhere.
use Rattle.session_rules.proofs.Base.{◌≡◌, ◌≢◌, ℕ, false, refl, ap, ◌∙◌, both_ways, false_from_ne_true, arith, nat_tests}
use Rattle.session_rules.proofs.Below.{Forest, Empty, Node, has, Once, children, put, removed, changed, moved, with_children, all_changed, swept, Moves, apart_of, at_some, children_absent, first_child_other, has_children, put_absent, children_changed}
use Rattle.session_rules.proofs.Forests.{emptied_absent, has_emptied, has_left, has_put_other}
use Rattle.session_rules.proofs.Swept.{has_all, has_swept}

module _ {A : Type 0} where
  pub outside : (p n : ℕ) (t : Forest A) → has n t ≡ false → has p (children n t) ≡ false
  outside p n t h = ap (has p) (children_absent n t h)

  pub not_in : (p n : ℕ) (t : Forest A) → Once t → has p t ≡ false → has p (children n t) ≡ false
  not_in p n t o h = false_from_ne_true (has p (children n t)) (λ u. both_ways (has p t) h (has_children p n t o u))

  -- a node goes that is neither the one nor above it
  pub children_left : (p n : ℕ) (t : Forest A) → Once t → p ≢ n → has p (children n t) ≡ false → children p (removed n t) ≡ removed n (children p t)
  children_left p n Empty o ne u = refl
  children_left p n (Node k a below beside) o ne u = grind (arith, nat_tests, apart_of k a below beside o, outside p n below, outside p n beside, has_left p n below, children_left p n below, children_left p n beside)

  -- all below another node goes
  pub children_emptied : (p n : ℕ) (t : Forest A) → Once t → p ≢ n → has p (children n t) ≡ false → children p (with_children n Empty t) ≡ with_children n Empty (children p t)
  children_emptied p n Empty o ne u = refl
  children_emptied p n (Node k a below beside) o ne u = grind (arith, nat_tests, apart_of k a below beside o, outside p n below, outside p n beside, has_emptied p n below, children_emptied p n below, children_emptied p n beside)

  -- below the node itself nothing is left
  pub own_emptied : (n : ℕ) (t : Forest A) → Once t → children n (with_children n Empty t) ≡ Empty
  own_emptied n Empty o = refl
  own_emptied n (Node k a below beside) o = grind (arith, nat_tests, apart_of k a below beside o, first_child_other n below, outside n n below, has_emptied n n below, own_emptied n below, own_emptied n beside)

  -- a node comes with what is below it
  pub children_put_other : (p q m : ℕ) (a : A) (sub t : Forest A) → Once t → p ≢ q → p ≢ m → has p sub ≡ false → children p (put q m a sub t) ≡ put q m a sub (children p t)
  children_put_other p q m a sub Empty o ne other u = refl
  children_put_other p q m a sub (Node k b below beside) o ne other u = grind (arith, nat_tests, apart_of k b below beside o, put_absent q m a sub (children p below), not_in q p below, has_put_other p q m a sub below other u, children_put_other p q m a sub below, children_put_other p q m a sub beside)

  -- a node without children has none still
  pub lone_changed : (p n : ℕ) (f : A → A) (t : Forest A) → children p t ≡ Empty → children p (changed n f t) ≡ Empty
  lone_changed p n f t e = children_changed p n f t ∙ ap (changed n f) e

  pub lone_left : (p n : ℕ) (t : Forest A) → Once t → p ≢ n → has p (children n t) ≡ false → children p t ≡ Empty → children p (removed n t) ≡ Empty
  lone_left p n t o ne u e = children_left p n t o ne u ∙ ap (removed n) e

  pub lone_emptied : (p n : ℕ) (t : Forest A) → Once t → has p (children n t) ≡ false → children p t ≡ Empty → children p (with_children n Empty t) ≡ Empty
  lone_emptied p n Empty o u e = refl
  lone_emptied p n (Node k a below beside) o u e = grind (arith, nat_tests, apart_of k a below beside o, emptied_absent n Empty below, emptied_absent n Empty beside, has_emptied p n below, lone_emptied p n below, lone_emptied p n beside)

  pub lone_put : (p q m : ℕ) (a : A) (sub t : Forest A) → p ≢ q → p ≢ m → has p sub ≡ false → children p t ≡ Empty → children p (put q m a sub t) ≡ Empty
  lone_put p q m a sub Empty ne other u e = refl
  lone_put p q m a sub (Node k b below beside) ne other u e = grind (arith, nat_tests, has_put_other p q m a sub below other u, lone_put p q m a sub below ne other u, lone_put p q m a sub beside ne other u)

  pub lone_moved : (p n q : ℕ) (t : Forest A) → Once t → Moves n q t → p ≢ q → p ≢ n → has p (children n t) ≡ false → children p t ≡ Empty → children p (moved n q t) ≡ Empty
  lone_moved p n q t o w ne other u e = grind (arith, nat_tests, at_some n t w.node, lone_put p q n, lone_left p n t o other u e)

  pub lone_all : (p : ℕ) (f : A → A) (t : Forest A) → children p t ≡ Empty → children p (all_changed f t) ≡ Empty
  lone_all p f Empty e = refl
  lone_all p f (Node k a below beside) e = grind (arith, has_all f p below, lone_all p f below, lone_all p f beside)

  pub lone_swept : (p n : ℕ) (f : A → A) (t : Forest A) → children p t ≡ Empty → children p (swept f n t) ≡ Empty
  lone_swept p n f Empty e = refl
  lone_swept p n f (Node k a below beside) e = grind (arith, has_all f p below, has_swept f p n below, lone_all p f below, lone_swept p n f below, lone_swept p n f beside)
