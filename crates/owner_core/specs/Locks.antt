-- What happens to an owner's locks, as steps.
use Rattle.std.specs.Prelude.{ℕ, Bool, true, false, List, [], ◌∷◌, Option}
use Rattle.owner_core.specs.Steps.{Step, top_locks, ReleasesLocks, PassesLocks, ReleasesAllLocks}
use Rattle.owner_core.specs.declared.locks.Locks.{Locks}
use Rattle.owner_core.specs.declared.locks.Locks.TheVariants.{Stay, Release, Pass, ReleaseAll}

abbrev pub steps_of_locks : Locks → List Step
steps_of_locks Stay = []
steps_of_locks (Release owner) = ReleasesLocks owner.number ∷ []
steps_of_locks (Pass from to) = PassesLocks from.number to.number ∷ []
steps_of_locks (ReleaseAll top) = ReleasesAllLocks top.number ∷ []

-- what happens to the locks of an owner below the one that is released
abbrev pub locks_below : Bool → Bool → ℕ → Option ℕ → List Step
locks_below true commit n parent = []
locks_below false commit n parent = top_locks false commit n parent
