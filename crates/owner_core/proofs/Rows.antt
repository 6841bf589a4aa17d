-- The definitions of a release, run on owners with items of four kinds.
use Rattle.std.proofs.Common.{◌≡◌, ℕ, true, false, List, [], ◌∷◌, refl}
use Rattle.pgs_step.specs.declared.ids.Item.{Item}
use Rattle.pgs_step.specs.declared.ids.Phase.TheVariants.{BeforeLocks, Locks, AfterLocks}
use Rattle.pgs_step.specs.declared.events.What.TheVariants.{Release, NotClosed, OwnerGone}
use Rattle.forest.specs.Forest.{Empty, Node}
use Rattle.owner_kinds.specs.KindTable.{KindTable, row_of}
use Rattle.owner_core.specs.Owners.{Owner, OwnerTree}
use Rattle.owner_core.specs.Released.{released}
use Rattle.owner_core.specs.Steps.{Said, GivesBack, ReleasesLocks, PassesLocks, ReleasesAllLocks, release_steps, gone_events}

-- the built-in kinds alone
abbrev kinds : KindTable
kinds = record { names = []; rows = [] }

abbrev pin : ℕ → ℕ → Item
pin key serial = record { kind = record { 0 = 1 }; key = key; serial = serial }

abbrev relation : ℕ → ℕ → Item
relation key serial = record { kind = record { 0 = 2 }; key = key; serial = serial }

abbrev plan : ℕ → ℕ → Item
plan key serial = record { kind = record { 0 = 5 }; key = key; serial = serial }

abbrev file : ℕ → ℕ → Item
file key serial = record { kind = record { 0 = 8 }; key = key; serial = serial }

abbrev owner : List Item → Owner
owner items = record { begun = false; items = items }

-- owner 1 with a pin, and below it owner 3 with a file and a plan reference and the older owner 2 with a
-- relation cache reference that is newer than two pins
abbrev three : OwnerTree
three = Node 1 (owner (pin 7 1 ∷ [])) (Node 3 (owner (file 4 6 ∷ plan 6 5 ∷ [])) Empty (Node 2 (owner (relation 9 4 ∷ pin 5 3 ∷ pin 5 2 ∷ [])) Empty Empty)) Empty

-- at commit, before the locks: the children's items before the parent's, pins before references, the newest first
before_locks_row : release_steps kinds BeforeLocks true true 1 three
    ≡ Said (NotClosed (pin 5 3) 2) ∷ Said (Release (pin 5 3) 2) ∷ GivesBack (pin 5 3)
    ∷ Said (NotClosed (pin 5 2) 2) ∷ Said (Release (pin 5 2) 2) ∷ GivesBack (pin 5 2)
    ∷ Said (NotClosed (relation 9 4) 2) ∷ Said (Release (relation 9 4) 2) ∷ GivesBack (relation 9 4)
    ∷ Said (NotClosed (pin 7 1) 1) ∷ Said (Release (pin 7 1) 1) ∷ GivesBack (pin 7 1) ∷ []
unfolding row_of
before_locks_row = refl

-- at abort, behind the locks: no warning, and plan references before files
after_locks_row : release_steps kinds AfterLocks false true 1 three
    ≡ Said (Release (plan 6 5) 3) ∷ GivesBack (plan 6 5) ∷ Said (Release (file 4 6) 3) ∷ GivesBack (file 4 6) ∷ []
unfolding row_of
after_locks_row = refl

-- the locks of a topmost owner go all at once
locks_row : release_steps kinds Locks true true 1 three ≡ ReleasesAllLocks 1 ∷ []
locks_row = refl

abbrev chain : OwnerTree
chain = Node 1 (owner []) (Node 2 (owner []) (Node 3 (owner []) Empty Empty) Empty) Empty

-- those of another owner go to its parent at commit, and are released at abort, those below it first
pass_row : release_steps kinds Locks true false 2 chain ≡ PassesLocks 3 2 ∷ PassesLocks 2 1 ∷ []
pass_row = refl

release_row : release_steps kinds Locks false false 2 chain ≡ ReleasesLocks 3 ∷ ReleasesLocks 2 ∷ []
release_row = refl

-- what a phase leaves
left_row : released kinds BeforeLocks 1 three
    ≡ Node 1 (record { begun = true; items = [] }) (Node 3 (record { begun = true; items = file 4 6 ∷ plan 6 5 ∷ [] }) Empty (Node 2 (record { begun = true; items = [] }) Empty Empty)) Empty
unfolding row_of
left_row = refl

gone_row : gone_events 1 three ≡ OwnerGone 3 ∷ OwnerGone 2 ∷ OwnerGone 1 ∷ []
gone_row = refl
