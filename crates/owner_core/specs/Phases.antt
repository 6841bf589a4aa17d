-- What the three phases of a release leave, one behind the other.
use Rattle.std.specs.Prelude.{ℕ, Bool, true, false, ◌==◌, if◌then◌else◌, List, [], ◌∷◌, All}
use Rattle.pgs_step.specs.declared.ids.Phase.TheVariants.{BeforeLocks, Locks, AfterLocks}
use Rattle.owner_kinds.specs.KindTable.{KindTable, IsKind}
use Rattle.owner_core.specs.Owners.{Owner, OwnerTree}
use Rattle.owner_core.specs.Released.{released}
use Rattle.owner_core.specs.Steps.{Step, Said, GivesBack, ReleasesLocks, PassesLocks, ReleasesAllLocks}

-- each item of the owner is of a kind that the table has
abbrev pub HasKinds : KindTable → Owner → Type 0
HasKinds kinds owner = All (λ item. IsKind kinds item.kind) owner.items

-- the owners once all three phases were released of the one of that number and of all below it
abbrev pub all_released : KindTable → ℕ → OwnerTree → OwnerTree
all_released kinds n owners = released kinds AfterLocks n (released kinds Locks n (released kinds BeforeLocks n owners))

-- whether the owner of that number may hold locks behind a step, from whether it may before
abbrev pub may_lock : ℕ → Bool → Step → Bool
may_lock m before (Said what) = before
may_lock m before (GivesBack item) = before
may_lock m before (ReleasesLocks n) = if n == m then false else before
may_lock m before (PassesLocks n parent) = if n == m then false else (if parent == m then true else before)
may_lock m before (ReleasesAllLocks n) = false

-- the same behind some steps
abbrev pub may_lock_behind : ℕ → Bool → List Step → Bool
may_lock_behind m before [] = before
may_lock_behind m before (step ∷ steps) = may_lock_behind m (may_lock m before step) steps
