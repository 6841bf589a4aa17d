-- The steps of a release, each for an owner of which something is so: a release of an item stands directly before what gives that back, and at commit behind its warning.
use Rattle.session_laws.proofs.Words.{◌≡◌, ℕ, Bool, true, false, List, [], ◌∷◌, ◌++◌, Option, Some, None, refl, if◌then◌else◌, option_map_or, eq-eqb, or_left, Empty, Node, Forest, at, children, has, parent_of, nat_tests, arith}
use Rattle.session_laws.proofs.Scenes.{Item, Phase, BeforeLocks, Locks, AfterLocks, KindTable, Owner, OwnerTree, Step, Said, GivesBack, ReleasesLocks, PassesLocks, ReleasesAllLocks, releases_of, own_steps, lock_step, steps_below, top_locks, release_order, release_steps}
use Rattle.pgs_step.specs.declared.events.What.TheVariants as what

pub data AreOf (P : ℕ → Type 0) (commit : Bool) : List Step → Type 0 where
  no_step : AreOf P commit []
  warns : {item : Item} {n : ℕ} {rest : List Step} → commit ≡ true → AreOf P commit rest → AreOf P commit (Said (what.NotClosed item n) ∷ rest)
  gives_up : {item : Item} {n : ℕ} {rest : List Step} → P n → AreOf P commit rest → AreOf P commit (Said (what.Release item n) ∷ GivesBack item ∷ rest)
  unlocks : {n : ℕ} {rest : List Step} → P n → AreOf P commit rest → AreOf P commit (ReleasesLocks n ∷ rest)
  passes : {n to : ℕ} {rest : List Step} → commit ≡ true → AreOf P commit rest → AreOf P commit (PassesLocks n to ∷ rest)
  unlocks_all : {n : ℕ} {rest : List Step} → P n → AreOf P commit rest → AreOf P commit (ReleasesAllLocks n ∷ rest)

-- what is so of each number of a forest
abbrev pub AllNumbers : {A : Type 0} → (ℕ → Type 0) → Forest A → Type 0
AllNumbers P Empty = Unit {0}
AllNumbers P (Node k a below beside) = P k × AllNumbers P below × AllNumbers P beside

module _ (P : ℕ → Type 0) where
  pub numbers_of : {A : Type 0} (t : Forest A) → ((m : ℕ) → has m t ≡ true → P m) → AllNumbers P t
  numbers_of Empty h = tt
  numbers_of (Node k a below beside) h = grind (arith, nat_tests, numbers_of below, numbers_of beside, or_left, eq-eqb)

  both_of : {commit : Bool} {xs ys : List Step} → AreOf P commit xs → AreOf P commit ys → AreOf P commit (xs ++ ys)
  both_of no_step k = k
  both_of (warns e h) k = warns e (both_of h k)
  both_of (gives_up p h) k = gives_up p (both_of h k)
  both_of (unlocks p h) k = unlocks p (both_of h k)
  both_of (passes e h) k = passes e (both_of h k)
  both_of (unlocks_all p h) k = unlocks_all p (both_of h k)

  items_of : (commit : Bool) (n : ℕ) (items : List Item) → P n → AreOf P commit (releases_of commit n items)
  items_of commit n [] p = no_step
  items_of true n (item ∷ items) p = warns refl (gives_up p (items_of true n items p))
  items_of false n (item ∷ items) p = gives_up p (items_of false n items p)

  own_of : (kinds : KindTable) (phase : Phase) (commit : Bool) (n : ℕ) (owner : Owner) (locks : List Step) → P n → AreOf P commit locks → AreOf P commit (own_steps kinds phase commit n owner locks)
  own_of kinds Locks commit n owner locks p h = h
  own_of kinds BeforeLocks commit n owner locks p h = items_of commit n (release_order kinds BeforeLocks owner.items) p
  own_of kinds AfterLocks commit n owner locks p h = items_of commit n (release_order kinds AfterLocks owner.items) p

  lock_of : (commit : Bool) (n parent : ℕ) → P n → AreOf P commit (lock_step commit n parent ∷ [])
  lock_of true n parent p = passes refl no_step
  lock_of false n parent p = unlocks p no_step

  maybe_lock : (top commit : Bool) (n parent : ℕ) → P n → AreOf P commit (if top then [] else lock_step commit n parent ∷ [])
  maybe_lock true commit n parent p = no_step
  maybe_lock false commit n parent p = lock_of commit n parent p

  below_of : (kinds : KindTable) (phase : Phase) (commit top : Bool) (parent : ℕ) (owners : OwnerTree) → AllNumbers P owners → AreOf P commit (steps_below kinds phase commit top parent owners)
  below_of kinds phase commit top parent Empty h = no_step
  below_of kinds phase commit top parent (Node n owner below beside) h =
      both_of (below_of kinds phase commit top n below h.1) (both_of (own_of kinds phase commit n owner _ h.0 (maybe_lock top commit n parent h.0)) (below_of kinds phase commit top parent beside h.2))

  top_of : (top commit : Bool) (n : ℕ) (parent : Option ℕ) → P n → AreOf P commit (top_locks top commit n parent)
  top_of true commit n parent p = unlocks_all p no_step
  top_of false commit n None p = no_step
  top_of false commit n (Some parent) p = lock_of commit n parent p

  pub steps_of : (kinds : KindTable) (phase : Phase) (commit top : Bool) (n : ℕ) (owners : OwnerTree) → P n → AllNumbers P (children n owners) → AreOf P commit (release_steps kinds phase commit top n owners)
  steps_of kinds phase commit top n owners p h = go (at n owners)
    where
      go : (o : Option Owner) → AreOf P commit (option_map_or (λ owner. steps_below kinds phase commit top n (children n owners) ++ own_steps kinds phase commit n owner (top_locks top commit n (parent_of n owners))) o [])
      go None = no_step
      go (Some owner) = both_of (below_of kinds phase commit top n (children n owners) h) (own_of kinds phase commit n owner _ p (top_of top commit n (parent_of n owners) p))
