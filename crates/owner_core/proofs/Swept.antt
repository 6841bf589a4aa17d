-- What a phase leaves of a tree of owners.
use Rattle.std.proofs.Common.{◌≡◌, ℕ, Option, Some, refl, arith}
use Rattle.std.specs.Prelude.{◌==◌}
use Rattle.std.specs.Option.{option_map}
use Rattle.std.proofs.lemmas.Bool.{cases_Bool}
use Rattle.forest.specs.Forest.{Empty, Node, either, has, at, is_root, children, parent_of, AllNodes}
use Rattle.forest.specs.Walk.{all_changed, swept}
use Rattle.forest.proofs.Trees.{at_some, at_absent}
use Rattle.owner_core.specs.Owners.{Owner, OwnerTree, AllAt, subtree_of}
use Rattle.std.proofs.lemmas.Bool.Decides.{nat_tests}

-- the tree stays
module _ (m : ℕ) (f : Owner → Owner) where
  has_all : (t : OwnerTree) → has m (all_changed f t) ≡ has m t
  has_all Empty = refl
  has_all (Node k b below beside) = rw (has_all below, has_all beside) refl

  root_all : (t : OwnerTree) → is_root m (all_changed f t) ≡ is_root m t
  root_all Empty = refl
  root_all (Node k b below beside) = rw (root_all beside) refl

  parent_all : (t : OwnerTree) → parent_of m (all_changed f t) ≡ parent_of m t
  parent_all Empty = refl
  parent_all (Node k b below beside) = rw (root_all below, has_all below, parent_all below, parent_all beside) refl

  has_swept : (n : ℕ) (t : OwnerTree) → has m (swept f n t) ≡ has m t
  has_swept n Empty = refl
  has_swept n (Node k b below beside) = grind (arith, nat_tests, cases_Bool (k == n), has_all below, has_swept n beside, has_swept n below)

  root_swept : (n : ℕ) (t : OwnerTree) → is_root m (swept f n t) ≡ is_root m t
  root_swept n Empty = refl
  root_swept n (Node k b below beside) = grind (arith, nat_tests, cases_Bool (k == n), root_swept n beside)

  pub parent_swept : (n : ℕ) (t : OwnerTree) → parent_of m (swept f n t) ≡ parent_of m t
  parent_swept n Empty = refl
  parent_swept n (Node k b below beside) = grind (arith, nat_tests, cases_Bool (k == n), root_all below, has_all below, parent_all below, parent_swept n beside, parent_swept n below, root_swept n below, has_swept n below)

module _ (n : ℕ) (f : Owner → Owner) where
  either_map : (x y : Option Owner) → either (option_map f x) (option_map f y) ≡ option_map f (either x y)
  either_map x0 y = grind (arith, nat_tests)

  at_swept : (t : OwnerTree) → at n (swept f n t) ≡ option_map f (at n t)
  at_swept Empty = refl
  at_swept (Node k b below beside) = grind (arith, nat_tests, cases_Bool (k == n), at_swept below, at_swept beside, either_map (at n below) (at n beside))

  children_swept : (t : OwnerTree) → children n (swept f n t) ≡ all_changed f (children n t)
  children_swept Empty = refl
  children_swept (Node k b below beside) = grind (arith, nat_tests, cases_Bool (k == n), cases_Bool (has n below), has_swept n f n below, children_swept below, children_swept beside)

module _ (P : Owner → Type 0) where
  all_one : (n : ℕ) (a : Owner) (t : OwnerTree) → AllNodes P t → at n t ≡ Some a → P a
  all_one n a Empty all h = absurd (cc)
  all_one n a (Node k b below beside) all h = grind (arith, nat_tests, cases_Bool (k == n), cases_Bool (has n below), at_some n below, all_one n a below all.1, all_one n a beside all.2, at_absent n below)

  all_children : (n : ℕ) (t : OwnerTree) → AllNodes P t → AllNodes P (children n t)
  all_children n Empty all = tt
  all_children n (Node k b below beside) all = grind (arith, nat_tests, cases_Bool (k == n), cases_Bool (has n below), all_children n below all.1, all_children n beside all.2)

  -- what holds of all owners holds of those from one on
  pub all_below : (n : ℕ) (t : OwnerTree) → AllNodes P t → AllNodes P (subtree_of n t)
  all_below n t all = grind (arith, nat_tests, cases_Bool (has n t), at_some n t, all_one n, all_children n t all, at_absent n t)

module _ (P Q : Owner → Type 0) (f : Owner → Owner) (becomes : (a : Owner) → P a → Q (f a)) where
  all_all : (t : OwnerTree) → AllNodes P t → AllNodes Q (all_changed f t)
  all_all Empty all = tt
  all_all (Node k b below beside) all = (becomes b all.0, all_all below all.1, all_all beside all.2)

  -- what becomes true of the owner and of each below it
  pub all_from : (n : ℕ) (t : OwnerTree) → AllAt P n t → AllAt Q n (swept f n t)
  all_from n t all = grind (arith, nat_tests, cases_Bool (has n t), at_some n t, at_swept n f t, children_swept n f t, all_all (children n t), at_absent n t)

module _ (P : Owner → Type 0) (f : Owner → Owner) (keeps : (a : Owner) → P a → P (f a)) where
  pub all_swept : (n : ℕ) (t : OwnerTree) → AllNodes P t → AllNodes P (swept f n t)
  all_swept n Empty all = tt
  all_swept n (Node k b below beside) all = grind (arith, nat_tests, cases_Bool (k == n), all_all P P f keeps below all.1, all_swept n beside all.2, all_swept n below all.1)
