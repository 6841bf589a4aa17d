-- How often owners hold a kind and key, behind each change of them, and what a phase of a release gives back of it.
use Rattle.session_rules.proofs.Base.{◌≡◌, ℕ, ◌+◌, find, Bool, true, false, Option, Some, List, [], ◌∷◌, ◌++◌, refl, arith, ◌==◌, ◌||◌, if◌then◌else◌, cases_Bool, or_parts, nat_tests, common_steps}
use Rattle.session_rules.proofs.Below.{Item, KindId, Phase, BeforeLocks, Locks, AfterLocks, Empty, Node, Once, has, at, children, moved, parent_of, put, removed, AllNodes, all_changed, swept, Moves, apart_of, at_some, at_absent, removed_absent, KindTable, release_order, Step, GivesBack, lock_step, own_steps, release_steps, releases_of, steps_below, top_locks, is_of, uses, count-without, Owner, OwnerTree, AllAt, HoldsNothing, forgotten, remembered, left_of, own_released, released, total, uses_phase, held_changed, total_moved, total_removed}
use Rattle.owner_core.specs.Owners.{created, held}

module _ (kind : KindId) (key : ℕ) where
  used : Owner → ℕ
  used owner = uses kind key owner.items

  held_total : (t : OwnerTree) → held kind key t ≡ total used t
  unfolding used
  held_total Empty = refl
  held_total (Node n a below beside) = rw (held_total below, held_total beside) refl

  held_put : (p n : ℕ) (t : OwnerTree) → held kind key (put p n (record { begun = false; items = [] }) Empty t) ≡ held kind key t
  held_put p n Empty = refl
  held_put p n (Node k b below beside) = grind (arith, nat_tests, held_put p n beside, held_put p n below)

  -- a new owner holds nothing
  pub held_created : (parent : Option ℕ) (n : ℕ) (t : OwnerTree) → held kind key (created parent n t) ≡ held kind key t
  held_created parent n t = grind (arith, nat_tests, held_put)

  -- an owner and those below it
  held_parts : (n : ℕ) (a : Owner) (t : OwnerTree) → Once t → at n t ≡ Some a
      → held kind key (removed n t) + (uses kind key a.items + held kind key (children n t)) ≡ held kind key t
  unfolding used
  held_parts n a t o h = grind (arith, nat_tests, total_removed, used, held_total)

  held_nothing : (t : OwnerTree) → AllNodes HoldsNothing t → held kind key t ≡ 0
  held_nothing Empty h = refl
  held_nothing (Node n a below beside) h = grind (arith, nat_tests, held_nothing below h.1, held_nothing beside h.2)

  -- owners go that hold nothing
  pub held_removed : (n : ℕ) (t : OwnerTree) → Once t → AllAt HoldsNothing n t → held kind key (removed n t) ≡ held kind key t
  held_removed n t o all = grind (arith, nat_tests, cases_Bool (has n t), at_some n t, held_parts n, held_nothing (children n t), removed_absent n t)

  -- an owner moves
  pub held_moved : (n q : ℕ) (t : OwnerTree) → Once t → Moves n q t → held kind key (moved n q t) ≡ held kind key t
  unfolding used
  held_moved n q t o w = grind (arith, nat_tests, at_some, total_moved, used, held_total)

  uses_one : (item : Item) (items : List Item) → uses kind key (item ∷ items) ≡ uses kind key items + (if is_of kind key item then 1 else 0)
  uses_one item items = grind (arith, common_steps)

  -- one item more
  pub held_remembered : (n : ℕ) (item : Item) (a : Owner) (t : OwnerTree) → Once t → at n t ≡ Some a
      → held kind key (remembered n item t) ≡ held kind key t + (if is_of kind key item then 1 else 0)
  held_remembered n item a t o h = grind (arith, nat_tests, held_changed kind key n, uses_one item a.items)

  -- one item fewer
  pub held_forgotten : (n : ℕ) (of : KindId) (at_key : ℕ) (item : Item) (a : Owner) (t : OwnerTree) → Once t → at n t ≡ Some a → find (is_of of at_key) a.items ≡ Some item
      → held kind key (forgotten n of at_key t) + (if is_of kind key item then 1 else 0) ≡ held kind key t
  held_forgotten n of at_key item a t o h found =
      grind (arith, nat_tests, held_changed kind key n, count-without (is_of kind key) (is_of of at_key) a.items item found)

  -- how often steps give it back
  abbrev pub given : Step → ℕ
  given (GivesBack item) = if is_of kind key item then 1 else 0
  given other = 0

  abbrev pub gives : List Step → ℕ
  gives [] = 0
  gives (step ∷ steps) = given step + gives steps

  gives_both : (xs ys : List Step) → gives (xs ++ ys) ≡ gives xs + gives ys
  gives_both [] ys = omega arith
  gives_both (x ∷ xs) ys = omega (arith, gives_both xs ys)

  gives_releases : (commit : Bool) (n : ℕ) (items : List Item) → gives (releases_of commit n items) ≡ uses kind key items
  gives_releases commit n [] = refl
  gives_releases true n (item ∷ items) = omega (arith, gives_releases true n items, uses_one item items)
  gives_releases false n (item ∷ items) = omega (arith, gives_releases false n items, uses_one item items)

  -- of one owner: what it gives back and what is left to it is what it had
  gives_own : (kinds : KindTable) (phase : Phase) (commit : Bool) (n : ℕ) (owner : Owner) (locks : List Step) → gives locks ≡ 0
      → gives (own_steps kinds phase commit n owner locks) + uses kind key (left_of kinds phase owner.items) ≡ uses kind key owner.items
  gives_own kinds Locks commit n owner locks none = omega (arith, none)
  gives_own kinds BeforeLocks commit n owner locks none = omega (arith, gives_releases commit n (release_order kinds BeforeLocks owner.items), uses_phase kind key kinds BeforeLocks owner.items)
  gives_own kinds AfterLocks commit n owner locks none = omega (arith, gives_releases commit n (release_order kinds AfterLocks owner.items), uses_phase kind key kinds AfterLocks owner.items)

  lock_gives : (commit : Bool) (n parent : ℕ) → given (lock_step commit n parent) ≡ 0
  lock_gives commit n parent = grind (arith, nat_tests)

  locks_give : (top commit : Bool) (n parent : ℕ) → gives (if top then [] else lock_step commit n parent ∷ []) ≡ 0
  locks_give top commit n parent = grind (arith, nat_tests, lock_gives commit n parent)

  top_gives : (top commit : Bool) (n : ℕ) (parent : Option ℕ) → gives (top_locks top commit n parent) ≡ 0
  top_gives top commit n parent = grind (arith, nat_tests, lock_gives commit n)

  -- of the owners below one
  gives_below : (kinds : KindTable) (phase : Phase) (commit top : Bool) (parent : ℕ) (t : OwnerTree)
      → gives (steps_below kinds phase commit top parent t) + held kind key (all_changed (own_released kinds phase) t) ≡ held kind key t
  gives_below kinds phase commit top parent Empty = refl
  gives_below kinds phase commit top parent (Node n owner below beside) = grind (arith, nat_tests, gives_both (steps_below kinds phase commit top n below), gives_both, gives_own kinds phase commit n owner, locks_give top commit n parent, gives_below kinds phase commit top n below, gives_below kinds phase commit top parent beside)

  -- what a change of an owner and of all below it does to the sum
  unswept : (f : Owner → Owner) (n : ℕ) (t : OwnerTree) → has n t ≡ false → swept f n t ≡ t
  unswept f n Empty h = refl
  unswept f n (Node k a below beside) h = grind (arith, nat_tests, or_parts (k == n) (has n below || has n beside) h, or_parts (has n below) (has n beside), unswept f n below, unswept f n beside)

  held_swept : (f : Owner → Owner) (n : ℕ) (a : Owner) (t : OwnerTree) → Once t → at n t ≡ Some a
      → held kind key (swept f n t) + (uses kind key a.items + held kind key (children n t)) ≡ held kind key t + (uses kind key (f a).items + held kind key (all_changed f (children n t)))
  held_swept f n a Empty o h = absurd (cc h)
  held_swept f n a (Node k b below beside) o h = grind (arith, nat_tests, apart_of k b below beside o, unswept f n beside, unswept f n below, at_some n below, held_swept f n a below, held_swept f n a beside, at_absent n below)

  -- A phase gives back what it takes off the owners.
  pub gives_phase : (kinds : KindTable) (phase : Phase) (commit top : Bool) (n : ℕ) (t : OwnerTree) → Once t
      → gives (release_steps kinds phase commit top n t) + held kind key (released kinds phase n t) ≡ held kind key t
  gives_phase kinds phase commit top n t o = grind (arith, nat_tests, cases_Bool (has n t), at_some n t, gives_both, gives_below kinds phase commit top n (children n t), gives_own kinds phase commit n, top_gives top commit n (parent_of n t), held_swept (own_released kinds phase) n, at_absent n t, unswept (own_released kinds phase) n t)
