-- What a phase of a release leaves.
use Rattle.std.specs.Prelude.{ℕ, true, List}
use Rattle.pgs_step.specs.declared.ids.Item.{Item}
use Rattle.pgs_step.specs.declared.ids.Phase.{Phase}
use Rattle.pgs_step.specs.declared.ids.Phase.TheVariants.{BeforeLocks, Locks, AfterLocks}
use Rattle.forest.specs.Walk.{swept}
use Rattle.owner_kinds.specs.KindTable.{KindTable}
use Rattle.owner_items.specs.Next.{items_left}
use Rattle.owner_core.specs.Owners.{Owner, OwnerTree}

-- the items that a phase leaves to an owner
abbrev pub left_of : KindTable → Phase → List Item → List Item
left_of kinds Locks items = items
left_of kinds BeforeLocks items = items_left kinds BeforeLocks items
left_of kinds AfterLocks items = items_left kinds AfterLocks items

-- an owner once a phase of it was released
abbrev pub own_released : KindTable → Phase → Owner → Owner
own_released kinds phase owner = record { begun = true; items = left_of kinds phase owner.items }

-- the owners once a phase was released of the one of that number and of all below it
abbrev pub released : KindTable → Phase → ℕ → OwnerTree → OwnerTree
released kinds phase n owners = swept (own_released kinds phase) n owners
