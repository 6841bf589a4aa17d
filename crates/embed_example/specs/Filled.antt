-- The owners of a scene, and the kinds of what they hold.
use Rattle.std.specs.Prelude.{ℕ, false, List, [], ◌∷◌, ◌++◌, codes}
use Rattle.pgs_step.specs.declared.ids.Item.{Item}
use Rattle.pgs_step.specs.declared.ids.Phase.TheVariants.{BeforeLocks, AfterLocks}
use Rattle.pgs_step.specs.declared.events.What.{What}
use Rattle.pgs_step.specs.declared.events.What.TheVariants as what
use Rattle.forest.specs.Forest.{Empty, Node}
use Rattle.owner_kinds.specs.Kind.{Kind}
use Rattle.owner_core.specs.Owners.{OwnerTree}

-- connections, kind 16, go before the locks, cursors, kind 18, before them, and files, kind 17, behind the locks
abbrev pub scene_kinds : List Kind
scene_kinds =
    record { name = codes "connection"; phase = BeforeLocks; priority = 100; limit = 8; held = [] }
    ∷ record { name = codes "file"; phase = AfterLocks; priority = 700; limit = 8; held = [] }
    ∷ record { name = codes "cursor"; phase = BeforeLocks; priority = 50; limit = 8; held = [] } ∷ []

abbrev pub connection : ℕ → ℕ → Item
connection key serial = record { kind = record { 0 = 16 }; key = key; serial = serial }

abbrev pub file : ℕ → ℕ → Item
file key serial = record { kind = record { 0 = 17 }; key = key; serial = serial }

abbrev pub cursor : ℕ → ℕ → Item
cursor key serial = record { kind = record { 0 = 18 }; key = key; serial = serial }

-- an owner with a connection, and one below it with a file, a cursor and a newer connection
abbrev pub filled : OwnerTree
filled =
    Node 1 (record { begun = false; items = connection 1 1 ∷ [] })
    (Node 2 (record { begun = false; items = connection 4 4 ∷ cursor 3 3 ∷ file 2 2 ∷ [] }) Empty Empty) Empty

-- what is said when they are made and filled
abbrev pub fill_said : List What
fill_said =
    what.Owner 1 ∷ what.OwnerIn 2 1 ∷ what.Acquire (connection 1 1) 1 ∷ what.Acquire (file 2 2) 2
    ∷ what.Acquire (cursor 3 3) 2 ∷ what.Acquire (connection 4 4) 2 ∷ []

-- what is said when they are released: before the locks all that is below first, the cursor before the connection, and
-- the file behind the locks
abbrev pub release_said : List What
release_said =
    what.Release (cursor 3 3) 2 ∷ what.DescriptorClosed 3 ∷ what.Release (connection 4 4) 2 ∷ what.DescriptorClosed 4
    ∷ what.Release (connection 1 1) 1 ∷ what.DescriptorClosed 1 ∷ what.Release (file 2 2) 2 ∷ what.DescriptorClosed 2 ∷ []

-- and when they are discarded
abbrev pub gone_said : List What
gone_said = what.OwnerGone 2 ∷ what.OwnerGone 1 ∷ []

-- all of it
abbrev pub scene_said : List What
scene_said = fill_said ++ (release_said ++ gone_said)
