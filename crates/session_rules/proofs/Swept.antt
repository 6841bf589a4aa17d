-- A node of a forest, and all below it, with other data.
use Rattle.session_rules.proofs.Base.{◌≡◌, ◌≢◌, ℕ, false, refl, option_map, arith, nat_tests}
use Rattle.session_rules.proofs.Below.{Forest, Empty, Node, has, Once, at, children, is_root, parent_of, removed, subtree, AllNodes, all_changed, swept, apart_of, at_absent}
use Rattle.session_rules.proofs.Guarded.{all_children, all_at}

module _ {A : Type 0} (f : A → A) where
  pub has_all : (m : ℕ) (t : Forest A) → has m (all_changed f t) ≡ has m t
  has_all m Empty = refl
  has_all m (Node k a below beside) = rw (has_all m below, has_all m beside) refl

  root_all : (m : ℕ) (t : Forest A) → is_root m (all_changed f t) ≡ is_root m t
  root_all m Empty = refl
  root_all m (Node k a below beside) = rw (root_all m beside) refl

  parent_all : (m : ℕ) (t : Forest A) → parent_of m (all_changed f t) ≡ parent_of m t
  parent_all m Empty = refl
  parent_all m (Node k a below beside) = rw (root_all m below, has_all m below, parent_all m below, parent_all m beside) refl

  pub has_swept : (m n : ℕ) (t : Forest A) → has m (swept f n t) ≡ has m t
  has_swept m n Empty = refl
  has_swept m n (Node k a below beside) = grind (arith, has_all m below, has_swept m n below, has_swept m n beside)

  root_swept : (m n : ℕ) (t : Forest A) → is_root m (swept f n t) ≡ is_root m t
  root_swept m n Empty = refl
  root_swept m n (Node k a below beside) = grind (arith, root_swept m n beside)

  pub parent_swept : (m n : ℕ) (t : Forest A) → parent_of m (swept f n t) ≡ parent_of m t
  parent_swept m n Empty = refl
  parent_swept m n (Node k a below beside) = grind (arith, nat_tests, root_all m below, has_all m below, parent_all m below, root_swept m n below, has_swept m n below, parent_swept m n below, parent_swept m n beside)

  pub removed_swept : (n : ℕ) (t : Forest A) → removed n (swept f n t) ≡ removed n t
  removed_swept n Empty = refl
  removed_swept n (Node k a below beside) = grind (arith, removed_swept n below, removed_swept n beside)

  pub children_swept : (n : ℕ) (t : Forest A) → children n (swept f n t) ≡ all_changed f (children n t)
  children_swept n Empty = refl
  children_swept n (Node k a below beside) = grind (arith, has_swept n n below, children_swept n below, children_swept n beside)

  pub below_swept : (m n : ℕ) (t : Forest A) → has m (children n (swept f n t)) ≡ has m (children n t)
  below_swept m n t = rw (children_swept n t) (has_all m (children n t))

  at_here : (n : ℕ) (t : Forest A) → at n (swept f n t) ≡ option_map f (at n t)
  at_here n Empty = refl
  at_here n (Node k a below beside) = grind (arith, at_here n below, at_here n beside)

  unswept : (n : ℕ) (t : Forest A) → has n t ≡ false → swept f n t ≡ t
  unswept n Empty h = refl
  unswept n (Node k a below beside) h = grind (arith, unswept n below, unswept n beside)

  pub at_swept_other : (m n : ℕ) (t : Forest A) → Once t → m ≢ n → has m (children n t) ≡ false → at m (swept f n t) ≡ at m t
  at_swept_other m n Empty o ne u = refl
  at_swept_other m n (Node k a below beside) o ne u = grind (arith, nat_tests, apart_of k a below beside o, at_absent m below, at_absent m (all_changed f below), all_changed f below, has_all m below, unswept n below, unswept n beside, at_swept_other m n below, at_swept_other m n beside)

  module _ (P Q : A → Type 0) (so : (a : A) → P a → Q (f a)) where
    all_all : (t : Forest A) → AllNodes P t → AllNodes Q (all_changed f t)
    all_all Empty h = tt
    all_all (Node k a below beside) h = (so a h.0, all_all below h.1, all_all beside h.2)

    -- what holds of them then
    pub swept_all : (n : ℕ) (t : Forest A) → AllNodes P t → AllNodes Q (subtree n (swept f n t))
    swept_all n t h = grind (arith, at_here n t, children_swept n t, so, all_at P n t, all_all (children n t) (all_children P n t h))

  pub all_swept : (P : A → Type 0) (n : ℕ) (t : Forest A) → ((a : A) → P a → P (f a)) → AllNodes P t → AllNodes P (swept f n t)
  all_swept P n Empty so h = tt
  all_swept P n (Node k a below beside) so h = grind (arith, so a h.0, all_all P P so below h.1, all_swept P n below so h.1, all_swept P n beside so h.2)

module _ {A : Type 0} (f g : A → A) where
  both_all : (t : Forest A) → all_changed g (all_changed f t) ≡ all_changed (λ a. g (f a)) t
  both_all Empty = refl
  both_all (Node k a below beside) = rw (both_all below, both_all beside) refl

  -- one sweep and then another
  pub both_swept : (n : ℕ) (t : Forest A) → swept g n (swept f n t) ≡ swept (λ a. g (f a)) n t
  both_swept n Empty = refl
  both_swept n (Node k a below beside) = grind (arith, both_all below, both_swept n below, both_swept n beside)
