-- The steps of a phase of a release: what they say themselves, and that a law which each of them keeps is kept by the phase.
use Rattle.session_rules.proofs.Base.{◌≡◌, ℕ, Bool, true, false, List, [], ◌∷◌, ◌++◌, Option, Some, None, refl, option_map_or, arith, nat_tests}
use Rattle.session_rules.proofs.Below.{What, Item, Phase, BeforeLocks, AfterLocks, Empty, Node, at, children, parent_of, table_of, KindTable, release_order, KindId, Owner, OwnerTree, forgotten, released, Step, Said, GivesBack, ReleasesLocks, PassesLocks, ReleasesAllLocks, lock_step, own_steps, release_steps, releases_of, steps_below, top_locks}
use Rattle.session_rules.proofs.Rules.{Scene, newest, changes, for_each, in_order, say, where_there, Keeper, NoOne, TheDescriptors, TheKind, ThePlans, descriptor_left, given_back, item_released, keeper_of, key_left, left_to, phase_released, plan_left, step_done, remembers}
use Rattle.session_rules.proofs.Leaves.{Acts, Keeps, Law}

-- What a law owes for an item that is forgotten, for owners and their items, and for locks that go.
abbrev pub ItemGoes : Law → Type 0
ItemGoes R = (n : ℕ) (kind : KindId) (key : ℕ) (newest_item : Item) (s : Scene) → newest n kind key s.session ≡ Some newest_item
    → R s (record s { session = record s.session { owners = forgotten n kind key s.session.owners } }) (What.Release newest_item n ∷ [])

pub record OwnerLeaves (R : Law) : Type 0 where
  pub releasing : (item : Item) (n : ℕ) → Keeps R (say (What.Release item n))
  pub warned : (item : Item) (n : ℕ) (s : Scene) → R s s (What.NotClosed item n ∷ What.Release item n ∷ [])
  pub remembered : (n : ℕ) (kind : KindId) (key : ℕ) → Keeps R (remembers n kind key)
  pub swept : (kinds : KindTable) (phase : Phase) (n : ℕ) (s : Scene) → R s (record s { session = record s.session { owners = released kinds phase n s.session.owners } }) []

pub record LockLeaves (R : Law) : Type 0 where
  pub let_go : (owner : ℕ) → Keeps R (step_done (ReleasesLocks owner))
  pub passed : (from to : ℕ) → Keeps R (step_done (PassesLocks from to))
  pub all_gone : (top : ℕ) → Keeps R (step_done (ReleasesAllLocks top))

-- A step says the release of an item or nothing itself. A warning stands directly before the release of its item.
abbrev pub is_release : What → Bool
is_release (What.Release item owner) = true
is_release other = false

abbrev pub IsReleaseStep : Step → Type 0
IsReleaseStep (Said event) = is_release event ≡ true
IsReleaseStep other = Unit {0}

pub data AreReleaseSteps : List Step → Type 0 where
  no_step : AreReleaseSteps []
  then_step : {first : Step} {rest : List Step} → IsReleaseStep first → AreReleaseSteps rest → AreReleaseSteps (first ∷ rest)
  warned_step : {n : ℕ} {item : Item} {rest : List Step} → AreReleaseSteps rest → AreReleaseSteps (Said (What.NotClosed item n) ∷ Said (What.Release item n) ∷ rest)

both_steps : {xs ys : List Step} → AreReleaseSteps xs → AreReleaseSteps ys → AreReleaseSteps (xs ++ ys)
both_steps no_step k = k
both_steps (then_step h hs) k = then_step h (both_steps hs k)
both_steps (warned_step hs) k = warned_step (both_steps hs k)

items_release : (commit : Bool) (n : ℕ) (items : List Item) → AreReleaseSteps (releases_of commit n items)
items_release commit n [] = no_step
items_release true n (item ∷ items) = warned_step (then_step tt (items_release true n items))
items_release false n (item ∷ items) = then_step refl (then_step tt (items_release false n items))

own_release : (kinds : KindTable) (phase : Phase) (commit : Bool) (n : ℕ) (owner : Owner) (steps : List Step) → AreReleaseSteps steps → AreReleaseSteps (own_steps kinds phase commit n owner steps)
own_release kinds phase commit n owner steps h = grind (arith, nat_tests, items_release commit n (release_order kinds BeforeLocks owner.items), items_release commit n (release_order kinds AfterLocks owner.items))

lock_release : (commit : Bool) (n parent : ℕ) → AreReleaseSteps (lock_step commit n parent ∷ [])
lock_release true n parent = then_step tt no_step
lock_release false n parent = then_step tt no_step

below_release : (kinds : KindTable) (phase : Phase) (commit top : Bool) (parent : ℕ) (owners : OwnerTree) → AreReleaseSteps (steps_below kinds phase commit top parent owners)
below_release kinds phase commit top parent Empty = no_step
below_release kinds phase commit top parent (Node n owner below beside) = grind (arith, nat_tests, both_steps, below_release kinds phase commit top n below, below_release kinds phase commit top parent beside, own_release kinds phase commit n owner, lock_release commit n parent)

top_release : (top commit : Bool) (n : ℕ) (parent : Option ℕ) → AreReleaseSteps (top_locks top commit n parent)
top_release true commit n parent = then_step tt no_step
top_release false commit n None = no_step
top_release false commit n (Some parent) = lock_release commit n parent

pub phase_release : (kinds : KindTable) (phase : Phase) (commit top : Bool) (n : ℕ) (owners : OwnerTree) → AreReleaseSteps (release_steps kinds phase commit top n owners)
phase_release kinds phase commit top n owners = go (at n owners)
  where
    go : (owner : Option Owner)
        → AreReleaseSteps (option_map_or (λ o. steps_below kinds phase commit top n (children n owners) ++ own_steps kinds phase commit n o (top_locks top commit n (parent_of n owners))) owner [])
    go None = no_step
    go (Some owner) = both_steps (below_release kinds phase commit top n (children n owners)) (own_release kinds phase commit n owner (top_locks top commit n (parent_of n owners)) (top_release top commit n (parent_of n owners)))

module _ (R : Law) (a : Acts R) (step : (x : Step) → IsReleaseStep x → Keeps R (step_done x)) (warned : (item : Item) (n : ℕ) (s : Scene) → R s s (What.NotClosed item n ∷ What.Release item n ∷ [])) where
  steps_so : (steps : List Step) → AreReleaseSteps steps → (s : Scene) → R s (for_each step_done steps s).scene (for_each step_done steps s).events
  steps_so [] no_step s = a.none s
  steps_so (x ∷ steps) (then_step h hs) s = a.both ((step x h).so s) (steps_so steps hs (step_done x s).scene)
  steps_so (Said w ∷ Said r ∷ steps) (warned_step {n = n} {item = item} hs) s = a.both (warned item n s) (steps_so steps hs s)

  -- A phase keeps a law that its steps keep, where owners may change behind them.
  pub by_phase : ((kinds : KindTable) (phase : Phase) (n : ℕ) (s : Scene) → R s (record s { session = record s.session { owners = released kinds phase n s.session.owners } }) [])
      → (commit top : Bool) (n : ℕ) (phase : Phase) → Keeps R (phase_released commit top n phase)
  by_phase swept commit top n phase = record {
    so = λ s. a.both (steps_so _ (phase_release (table_of s.around.kinds) phase commit top n s.session.owners) s) (a.both (swept (table_of s.around.kinds) phase n _) (a.none _));
  }

-- an item that is given back, one that is released, and a phase of a release
module _ (R : Law) (a : Acts R) (plan_goes : (key : ℕ) → Keeps R (plan_left key)) (closed : (file : ℕ) → Keeps R (descriptor_left file)) (key_closed : (place key : ℕ) → Keeps R (key_left place key)) where
  left : (keeper : Keeper) (key : ℕ) → Keeps R (left_to keeper key)
  left NoOne key = record { so = a.none }
  left ThePlans key = record { so = (plan_goes key).so }
  left TheDescriptors key = record { so = (closed key).so }
  left (TheKind place) key = record { so = (key_closed place key).so }

  pub item_given_back : (item : Item) → Keeps R (given_back item)
  item_given_back item = record { so = (left (keeper_of item.kind) item.key).so }

  pub item_releases : ItemGoes R → (owner : ℕ) (kind : KindId) (key : ℕ) → Keeps R (item_released owner kind key)
  item_releases goes owner kind key = record { so = λ s. go s (newest owner kind key s.session) refl }
    where
      go : (s : Scene) (found : Option Item) → newest owner kind key s.session ≡ found
          → R s (where_there found (λ (item : Item). in_order (changes (λ session. record session { owners = forgotten owner kind key session.owners }) ∷ say (What.Release item owner) ∷ given_back item ∷ [])) s).scene
          (where_there found (λ (item : Item). in_order (changes (λ session. record session { owners = forgotten owner kind key session.owners }) ∷ say (What.Release item owner) ∷ given_back item ∷ [])) s).events
      go s None is = a.none s
      go s (Some item) is = a.both (goes owner kind key item s is) (a.both ((item_given_back item).so (record s { session = record s.session { owners = forgotten owner kind key s.session.owners } })) (a.none _))

  module _ (n : OwnerLeaves R) (k : LockLeaves R) where
    step : (x : Step) → IsReleaseStep x → Keeps R (step_done x)
    step (Said event) h = said event h
      where
        said : (event : What) → is_release event ≡ true → Keeps R (say event)
        said (What.Release item owner) h = n.releasing item owner
        said other h = absurd (cc h)
    step (GivesBack item) h = record { so = (item_given_back item).so }
    step (ReleasesLocks owner) h = k.let_go owner
    step (PassesLocks from to) h = k.passed from to
    step (ReleasesAllLocks top) h = k.all_gone top

    pub phase_keeps : (commit top : Bool) (m : ℕ) (phase : Phase) → Keeps R (phase_released commit top m phase)
    phase_keeps commit top m phase = by_phase R a step n.warned n.swept commit top m phase
