-- The owner that a step takes an item for.
use Rattle.std.specs.Prelude.{◌≡◌, Some}
use Rattle.pgs_step.specs.declared.ids.OwnerId.{OwnerId}
use Rattle.addr_space.specs.Space.{Space}
use Rattle.session_rules.specs.State.{level_owner}
use Rattle.session_rules.specs.Elements.{OwnerRole}
use Rattle.session_rules.specs.Lookup.{owner_in}
use Rattle.session_store.specs.State.{StoreState, session_of}

-- the owner of the deepest level
abbrev pub IsLevelOwner : StoreState → OwnerId → Type 0
IsLevelOwner store owner = (s : Space) → level_owner (session_of store s) ≡ Some owner.number

-- the owner of a role: the deepest level's, or that of the portal of a name
abbrev pub IsOwnerOf : OwnerRole → StoreState → OwnerId → Type 0
IsOwnerOf role store owner = (s : Space) → owner_in role (session_of store s) ≡ Some owner.number
