-- The steps in which a phase of owners is released.
use Rattle.std.specs.Prelude.{ℕ, Bool, true, false, not, if◌then◌else◌, List, [], ◌∷◌, ◌++◌, map, Option, Some, None}
use Rattle.std.specs.Option.{option_map_or}
use Rattle.std.specs.List.{flat_map}
use Rattle.pgs_step.specs.declared.ids.Item.{Item}
use Rattle.pgs_step.specs.declared.ids.Phase.{Phase}
use Rattle.pgs_step.specs.declared.ids.Phase.TheVariants.{BeforeLocks, Locks, AfterLocks}
use Rattle.pgs_step.specs.declared.events.What.{What}
use Rattle.pgs_step.specs.declared.events.What.TheVariants.{Release, NotClosed, OwnerGone}
use Rattle.pgs_step.specs.declared.events.What.TheVariants as what
use Rattle.forest.specs.Forest.{Forest, Empty, Node, at, children, parent_of}
use Rattle.forest.specs.Walk.{order_at}
use Rattle.owner_kinds.specs.KindTable.{KindTable}
use Rattle.owner_items.specs.Next.{release_order}
use Rattle.owner_core.specs.Owners.{Owner, OwnerTree}

-- a step of a release: the owners say an event; a table gets an item back, releases the locks of an owner,
-- passes them to another one, or releases all locks of the session
pub data Step : Type 0 where
  Said : What → Step
  GivesBack : Item → Step
  ReleasesLocks : ℕ → Step
  PassesLocks : ℕ → ℕ → Step
  ReleasesAllLocks : ℕ → Step

-- An item's release is said before the item is given back. At commit its warning stands directly before that.
abbrev pub release_of : Bool → ℕ → Item → List Step
release_of true n item = Said (NotClosed item n) ∷ Said (Release item n) ∷ GivesBack item ∷ []
release_of false n item = Said (Release item n) ∷ GivesBack item ∷ []

-- the release of an owner's items, in this order
abbrev pub releases_of : Bool → ℕ → List Item → List Step
releases_of commit n items = flat_map (release_of commit n) items

-- At commit an owner's locks go to its parent, at abort they are released.
abbrev pub lock_step : Bool → ℕ → ℕ → Step
lock_step true n parent = PassesLocks n parent
lock_step false n parent = ReleasesLocks n

-- what an owner itself does in a phase, where `locks` is what happens to its locks
abbrev pub own_steps : KindTable → Phase → Bool → ℕ → Owner → List Step → List Step
own_steps kinds Locks commit n owner locks = locks
own_steps kinds BeforeLocks commit n owner locks = releases_of commit n (release_order kinds BeforeLocks owner.items)
own_steps kinds AfterLocks commit n owner locks = releases_of commit n (release_order kinds AfterLocks owner.items)

-- The owners below one: each child, the newest first, behind all that is below it. Where the locks of the
-- session go all at once, nothing happens to theirs.
abbrev pub steps_below : KindTable → Phase → Bool → Bool → ℕ → OwnerTree → List Step
steps_below kinds phase commit top parent Empty = []
steps_below kinds phase commit top parent (Node n owner below beside) =
    steps_below kinds phase commit top n below
    ++ (own_steps kinds phase commit n owner (if top then [] else lock_step commit n parent ∷ [])
    ++ steps_below kinds phase commit top parent beside)

-- what happens to the locks of the owner that is released
abbrev pub top_locks : Bool → Bool → ℕ → Option ℕ → List Step
top_locks true commit n parent = ReleasesAllLocks n ∷ []
top_locks false commit n parent = option_map_or (λ p. lock_step commit n p ∷ []) parent []

-- the release of a phase of the owner of that number, behind all that is below it
abbrev pub release_steps : KindTable → Phase → Bool → Bool → ℕ → OwnerTree → List Step
release_steps kinds phase commit top n owners =
    option_map_or
    (λ owner. steps_below kinds phase commit top n (children n owners)
    ++ own_steps kinds phase commit n owner (top_locks top commit n (parent_of n owners)))
    (at n owners) []

-- an owner goes behind all that is below it
abbrev pub gone_events : ℕ → OwnerTree → List What
gone_events n owners = map (λ m. OwnerGone m) (order_at n owners)

-- what is said of a new owner
abbrev pub made_event : Option ℕ → ℕ → What
made_event None n = what.Owner n
made_event (Some parent) n = what.OwnerIn n parent
