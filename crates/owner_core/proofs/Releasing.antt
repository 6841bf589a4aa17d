-- The walk of a release, and what it did so far.
use Rattle.std.proofs.Common.{◌≡◌, ◌≢◌, ◌⊎◌, ℕ, ◌+◌, ◌≤◌, Bool, true, false, Option, Some, List, [], ◌∷◌, ◌++◌, length, refl, ap, ◌∙◌, arith}
use Rattle.std.specs.Prelude.{◌==◌, ◌||◌, if◌then◌else◌}
use Rattle.std.specs.List.{flat_map}
use Rattle.std.proofs.lemmas.Bool.{cases_Bool, eq-eqb, ne_eqb, eqb-true, or_parts}
use Rattle.pgs_step.specs.declared.ids.KindId.{KindId}
use Rattle.pgs_step.specs.declared.ids.Phase.{Phase}
use Rattle.forest.specs.Forest.{Forest, Empty, Node, has, Once, at, children, parent_of, changed, AllNodes}
use Rattle.forest.specs.Walk.{order_at, lead, follows, todo}
use Rattle.forest.proofs.Trees.{apart_of, at_some, at_absent, has_at, changed_absent, has_changed, first_child_other}
use Rattle.forest.proofs.Walks.{once_children, todo_first, todo_next, todo_end, follows_in, lead_in, children_changed, todo_changed, follows_changed}
use Rattle.forest.proofs.Mapped.{mapped-once, mapped-children, mapped-lead, mapped-follows, mapped-has, mapped-parent}
use Rattle.owner_kinds.specs.KindTable.{KindTable}
use Rattle.owner_items.specs.ItemList.{uses}
use Rattle.owner_core.specs.Owners.{Owner, OwnerTree, Roomy, tree_of, held, subtree_of}
use Rattle.owner_core.specs.Locks.{locks_below}
use Rattle.owner_core.specs.Steps.{Step, own_steps, lock_step, top_locks, steps_below, release_steps}
use Rattle.owner_core.proofs.Lists.{Each, Each-both, flat-append}
use Rattle.owner_core.proofs.Walking.{Visit, visit, visits, walked, walk_tree, walked_at}
use Rattle.std.proofs.lemmas.Bool.Decides.{nat_tests}

-- the walk goes on from a node
pub record Onward (f : Owner → Owner) (n0 cur next : ℕ) (t : OwnerTree) : Type 0 where
  pub list : todo n0 cur (children n0 t) ≡ cur ∷ todo n0 next (children n0 (changed cur f t))
  pub place : (next ≡ n0) ⊎ (has next (children n0 (changed cur f t)) ≡ true)

pub onward : (f : Owner → Owner) (n0 cur : ℕ) (t : OwnerTree) → Once t → has n0 t ≡ true → has cur (children n0 t) ≡ true → Onward f n0 cur (follows cur n0 (children n0 t)) t
onward f n0 cur t o stands inside = grind (arith, nat_tests, once_children n0 t o, children_changed n0 cur f t, todo_next n0 cur (children n0 t) (once_children n0 t o) (first_child_other n0 t o stands) inside, first_child_other n0 t o stands, todo_changed n0 (follows cur n0 (children n0 t)) cur f (children n0 t), follows_in cur n0 (children n0 t) (once_children n0 t o) inside, has_changed (follows cur n0 (children n0 t)) cur f (children n0 t))

-- the walk begins
pub begins : (n0 : ℕ) (t : OwnerTree) → Once t → has n0 t ≡ true → todo n0 (lead n0 (children n0 t)) (children n0 t) ≡ order_at n0 t
begins n0 t o stands = todo_first n0 (children n0 t) (once_children n0 t o) (first_child_other n0 t o stands)

-- in the tree of the owners
pub lead_tree : (n0 : ℕ) (rooms : Forest Roomy) → lead n0 (children n0 rooms) ≡ lead n0 (children n0 (tree_of rooms))
lead_tree n0 rooms = grind (arith, nat_tests, mapped-lead, mapped-children)

pub follows_tree : (n0 m : ℕ) (rooms : Forest Roomy) → follows m n0 (children n0 rooms) ≡ follows m n0 (children n0 (tree_of rooms))
follows_tree n0 m rooms = grind (arith, nat_tests, mapped-follows, mapped-children)

pub inside_tree : (n0 m : ℕ) (rooms : Forest Roomy) → has m (children n0 (tree_of rooms)) ≡ has m (children n0 rooms)
inside_tree n0 m rooms = grind (arith, nat_tests, mapped-children, mapped-has)

module _ (kinds : KindTable) (phase : Phase) (commit top : Bool) (n0 : ℕ) where
  -- what happens at a node of the walk
  pub visit_steps : Visit Owner → List Step
  visit_steps v =
      own_steps kinds phase commit v.number v.value (if v.number == n0 then top_locks top commit v.number v.parent else locks_below top commit v.number v.parent)

  locks_are : (k up : ℕ) → locks_below top commit k (Some up) ≡ (if top then [] else lock_step commit k up ∷ [])
  locks_are k up = elim top as (λ b. locks_below b commit k (Some up) ≡ (if b then [] else lock_step commit k up ∷ [])) [ true ↦ refl | false ↦ refl ]

  pub steps_visits : (up : ℕ) (g : OwnerTree) → has n0 g ≡ false → flat_map visit_steps (visits up g) ≡ steps_below kinds phase commit top up g
  unfolding visit_steps
  steps_visits up Empty h = refl
  steps_visits up (Node k o below beside) h =
      let p = or_parts (k == n0) (has n0 below || has n0 beside) h in
      let q = or_parts (has n0 below) (has n0 beside) p.1 in
      flat-append visit_steps (visits k below) (record { number = k; parent = Some up; value = o } ∷ visits up beside)
      ∙ rw (p.0, locks_are k up, steps_visits k below q.0, steps_visits up beside q.1) refl

  pub steps_all : (a : Owner) (t : OwnerTree) → Once t → at n0 t ≡ Some a
      → flat_map visit_steps (visits n0 (children n0 t) ++ record { number = n0; parent = parent_of n0 t; value = a } ∷ []) ≡ release_steps kinds phase commit top n0 t
  unfolding visit_steps
  steps_all a t o h =
      flat-append visit_steps (visits n0 (children n0 t)) (record { number = n0; parent = parent_of n0 t; value = a } ∷ [])
      ∙ rw (steps_visits n0 (children n0 t) (first_child_other n0 t o (has_at n0 t a h)), h, eq-eqb n0 n0 refl)
      (ap (λ (xs : List Step). steps_below kinds phase commit top n0 (children n0 t) ++ xs) (append_nil_of (own_steps kinds phase commit n0 a (top_locks top commit n0 (parent_of n0 t)))))
    where
      append_nil_of : (xs : List Step) → xs ++ [] ≡ xs
      append_nil_of [] = refl
      append_nil_of (x ∷ xs) = ap (λ (ys : List Step). x ∷ ys) (append_nil_of xs)

  pub steps_at : (cur : ℕ) (a : Owner) (parent : Option ℕ) → cur ≢ n0 → visit_steps (record { number = cur; parent = parent; value = a }) ≡ own_steps kinds phase commit cur a (locks_below top commit cur parent)
  unfolding visit_steps
  steps_at cur a parent ne = rw (ne_eqb cur n0 ne) refl

  pub steps_top : (a : Owner) (parent : Option ℕ) → visit_steps (record { number = n0; parent = parent; value = a }) ≡ own_steps kinds phase commit n0 a (top_locks top commit n0 parent)
  unfolding visit_steps
  steps_top a parent = rw (eq-eqb n0 n0 refl) refl

module _ (kind : KindId) (key : ℕ) where
  -- how many items the nodes of a walk have of a kind and key
  pub visit_uses : List (Visit Owner) → ℕ
  visit_uses [] = 0
  visit_uses (v ∷ vs) = uses kind key v.value.items + visit_uses vs

  uses_append : (xs ys : List (Visit Owner)) → visit_uses (xs ++ ys) ≡ visit_uses xs + visit_uses ys
  unfolding visit_uses
  uses_append [] ys = omega arith
  uses_append (x ∷ xs) ys = omega (arith, uses_append xs ys)

  uses_visits : (up : ℕ) (g : OwnerTree) → visit_uses (visits up g) ≡ held kind key g
  unfolding visit_uses
  uses_visits up Empty = refl
  uses_visits up (Node k o below beside) = grind (arith, nat_tests, uses_append (visits k below), visits k below, visits up beside, uses_visits k below, uses_visits up beside)

  pub uses_all : (n0 : ℕ) (a : Owner) (t : OwnerTree) → at n0 t ≡ Some a
      → visit_uses (visits n0 (children n0 t) ++ record { number = n0; parent = parent_of n0 t; value = a } ∷ []) ≡ held kind key (subtree_of n0 t)
  unfolding visit_uses
  uses_all n0 a t h = grind (arith, nat_tests, uses_append (visits n0 (children n0 t)), visits n0 (children n0 t), uses_visits n0 (children n0 t))

  pub uses_first : (v : Visit Owner) (vs : List (Visit Owner)) → visit_uses (v ∷ vs) ≡ uses kind key v.value.items + visit_uses vs
  unfolding visit_uses
  uses_first v vs = refl

  -- what a change of one owner does to the sum
  pub held_changed : (n : ℕ) (f : Owner → Owner) (a : Owner) (t : OwnerTree) → Once t → at n t ≡ Some a → held kind key (changed n f t) + uses kind key a.items ≡ held kind key t + uses kind key (f a).items
  held_changed n f a Empty o h = absurd (cc)
  held_changed n f a (Node k b below beside) o h = grind (arith, nat_tests, apart_of k b below beside o, cases_Bool (k == n), cases_Bool (has n below), eqb-true k n, at_some n below, changed_absent n f below, changed_absent n f beside, held_changed n f a below (apart_of k b below beside o).once_below, held_changed n f a beside (apart_of k b below beside o).once_beside, at_absent n below)

-- what holds of each owner of a tree holds at each node of the walk
each_visits : (P : Owner → Type 0) (up : ℕ) (g : OwnerTree) → AllNodes P g → Each (λ (v : Visit Owner). P v.value) (visits up g)
each_visits P up Empty a = tt
each_visits P up (Node k o below beside) a = grind (arith, nat_tests, Each-both, visits k below, visits up beside, each_visits P k below a.1, each_visits P up beside a.2)

pub each_all : (P : Owner → Type 0) (n0 : ℕ) (a : Owner) (t : OwnerTree) → at n0 t ≡ Some a → AllNodes P (subtree_of n0 t)
    → Each (λ (v : Visit Owner). P v.value) (visits n0 (children n0 t) ++ record { number = n0; parent = parent_of n0 t; value = a } ∷ [])
each_all P n0 a t h all = grind (arith, nat_tests, Each-both, visits n0 (children n0 t), each_visits P n0 (children n0 t))

-- the node at which the walk stands
pub visit_at : (n : ℕ) (a : Owner) (t : OwnerTree) → at n t ≡ Some a → visit n t ≡ record { number = n; parent = parent_of n t; value = a } ∷ []
visit_at n a t h = rw h refl

-- one turn of the walk, from one tree to the next
pub record Turn (f : Owner → Owner) (n0 cur : ℕ) (a : Owner) (t : OwnerTree) (next : ℕ) (u : OwnerTree) : Type 0 where
  pub rest : walked f (todo n0 cur (children n0 t)) t ≡ record { number = cur; parent = parent_of cur t; value = a } ∷ walked f (todo n0 next (children n0 u)) u
  pub tree : walk_tree f (todo n0 cur (children n0 t)) t ≡ walk_tree f (todo n0 next (children n0 u)) u
  pub place : (next ≡ n0) ⊎ (has next (children n0 u) ≡ true)
  pub stands : has n0 u ≡ true
  pub shorter : length (todo n0 cur (children n0 t)) ≡ 1 + length (todo n0 next (children n0 u))

turn_same : (f : Owner → Owner) (n0 cur : ℕ) (a : Owner) (t : OwnerTree) → Once t → has n0 t ≡ true → has cur (children n0 t) ≡ true → at cur t ≡ Some a
    → Turn f n0 cur a t (follows cur n0 (children n0 t)) (changed cur f t)
turn_same f n0 cur a t o stands inside h = grind (arith, nat_tests, onward f n0 cur t o stands inside, walked f, walked f (todo n0 (follows cur n0 (children n0 t)) (children n0 (changed cur f t))) (changed cur f t), visit_at cur a t h, walk_tree f, has_changed n0 cur f t)

pub turn : (f : Owner → Owner) (n0 cur : ℕ) (a : Owner) (t : OwnerTree) (next : ℕ) (u : OwnerTree) → Once t → has n0 t ≡ true → has cur (children n0 t) ≡ true → at cur t ≡ Some a
    → u ≡ changed cur f t → next ≡ follows cur n0 (children n0 u) → Turn f n0 cur a t next u
turn f n0 cur a t next u o stands inside h e q = grind (arith, nat_tests, children_changed n0 cur f t, follows_changed cur n0 cur f (children n0 t), turn_same f n0 cur a t o stands inside h)

-- the walk's start
pub record Start (f : Owner → Owner) (n0 cur : ℕ) (t : OwnerTree) : Type 0 where
  pub owner : Owner
  pub lies : at n0 t ≡ Some owner
  pub list : todo n0 cur (children n0 t) ≡ order_at n0 t
  pub rest : walked f (todo n0 cur (children n0 t)) t ≡ visits n0 (children n0 t) ++ record { number = n0; parent = parent_of n0 t; value = owner } ∷ []
  pub place : (cur ≡ n0) ⊎ (has cur (children n0 t) ≡ true)

pub start : (f : Owner → Owner) (n0 cur : ℕ) (t : OwnerTree) → Once t → has n0 t ≡ true → cur ≡ lead n0 (children n0 t) → Start f n0 cur t
start f n0 cur t o stands e = grind (arith, nat_tests, at_some n0 t stands, begins n0 t o stands, walked f, walked_at f n0 (at_some n0 t stands).0 t o (at_some n0 t stands).1, lead_in n0 (children n0 t))

-- the walk's end
pub record Finish (f : Owner → Owner) (n0 cur : ℕ) (a : Owner) (t : OwnerTree) : Type 0 where
  pub rest : walked f (todo n0 cur (children n0 t)) t ≡ record { number = n0; parent = parent_of n0 t; value = a } ∷ []
  pub tree : walk_tree f (todo n0 cur (children n0 t)) t ≡ changed n0 f t

pub finish : (f : Owner → Owner) (n0 cur : ℕ) (a : Owner) (t : OwnerTree) → cur ≡ n0 → at n0 t ≡ Some a → Finish f n0 cur a t
finish f n0 cur a t e h = grind (arith, nat_tests, todo_end n0 (children n0 t), walked f, visit_at n0 a t h, walk_tree f)

-- the parent of an owner, in the tree of the owners
pub parent_tree : (n : ℕ) (rooms : Forest Roomy) → parent_of n (tree_of rooms) ≡ parent_of n rooms
parent_tree n rooms = mapped-parent (λ (r : Roomy). r.owner) n rooms

pub once_tree : (rooms : Forest Roomy) → Once rooms → Once (tree_of rooms)
once_tree rooms o = mapped-once (λ (r : Roomy). r.owner) rooms o

pub inside_changed : (f : Owner → Owner) (n0 cur m : ℕ) (t : OwnerTree) → has m (children n0 (changed cur f t)) ≡ has m (children n0 t)
inside_changed f n0 cur m t = ap (λ (x : OwnerTree). has m x) (children_changed n0 cur f t) ∙ has_changed m cur f (children n0 t)

-- the table counts what the owner has at which the walk stands
pub enough_here : (kind : KindId) (key : ℕ) (f : Owner → Owner) (n0 cur : ℕ) (a : Owner) (t : OwnerTree) (have : ℕ) → Once t → has n0 t ≡ true → has cur (children n0 t) ≡ true → at cur t ≡ Some a
    → visit_uses kind key (walked f (todo n0 cur (children n0 t)) t) ≤ have → uses kind key a.items ≤ have
enough_here kind key f n0 cur a t have o stands inside h enough = grind (arith, nat_tests, turn_same f n0 cur a t o stands inside h, visit_uses kind key, uses_first kind key, walked f (todo n0 (follows cur n0 (children n0 t)) (children n0 (changed cur f t))) (changed cur f t))

pub kinds_here : (P : Owner → Type 0) (f : Owner → Owner) (n0 cur : ℕ) (a : Owner) (t : OwnerTree) → Once t → has n0 t ≡ true → has cur (children n0 t) ≡ true → at cur t ≡ Some a
    → Each (λ (v : Visit Owner). P v.value) (walked f (todo n0 cur (children n0 t)) t) → P a
kinds_here P f n0 cur a t o stands inside h each = grind (arith, nat_tests, turn_same f n0 cur a t o stands inside h)

pub enough_end : (kind : KindId) (key : ℕ) (f : Owner → Owner) (n0 cur : ℕ) (a : Owner) (t : OwnerTree) (have : ℕ) → cur ≡ n0 → at n0 t ≡ Some a
    → visit_uses kind key (walked f (todo n0 cur (children n0 t)) t) ≤ have → uses kind key a.items ≤ have
enough_end kind key f n0 cur a t have e h enough = grind (arith, nat_tests, finish f n0 cur a t e h, visit_uses kind key, uses_first kind key)

pub kinds_end : (P : Owner → Type 0) (f : Owner → Owner) (n0 cur : ℕ) (a : Owner) (t : OwnerTree) → cur ≡ n0 → at n0 t ≡ Some a
    → Each (λ (v : Visit Owner). P v.value) (walked f (todo n0 cur (children n0 t)) t) → P a
kinds_end P f n0 cur a t e h each = grind (arith, nat_tests, finish f n0 cur a t e h)
