-- Which lock modes conflict.
use Rattle.std.specs.Prelude.{ℕ, ◌==◌, Bool, List, [], ◌∷◌}
use Rattle.std.specs.List.{list_any}
use Rattle.pgs_step.specs.declared.lock_modes.Mode.{Mode}
use Rattle.pgs_step.specs.declared.lock_modes.Mode.TheVariants.{AccessShareLock, RowShareLock, RowExclusiveLock, ShareUpdateExclusiveLock, ShareLock, ShareRowExclusiveLock, ExclusiveLock, AccessExclusiveLock}
use Rattle.pgs_step.specs.Mode.{mode_number}

-- the numbers of the modes that conflict with a mode
abbrev pub conflicting : Mode → List ℕ
conflicting AccessShareLock = 8 ∷ []
conflicting RowShareLock = 7 ∷ 8 ∷ []
conflicting RowExclusiveLock = 5 ∷ 6 ∷ 7 ∷ 8 ∷ []
conflicting ShareUpdateExclusiveLock = 4 ∷ 5 ∷ 6 ∷ 7 ∷ 8 ∷ []
conflicting ShareLock = 3 ∷ 4 ∷ 6 ∷ 7 ∷ 8 ∷ []
conflicting ShareRowExclusiveLock = 3 ∷ 4 ∷ 5 ∷ 6 ∷ 7 ∷ 8 ∷ []
conflicting ExclusiveLock = 2 ∷ 3 ∷ 4 ∷ 5 ∷ 6 ∷ 7 ∷ 8 ∷ []
conflicting AccessExclusiveLock = 1 ∷ 2 ∷ 3 ∷ 4 ∷ 5 ∷ 6 ∷ 7 ∷ 8 ∷ []

-- whether a mode that is wanted conflicts with one that another session holds
unfoldable pub conflicts : Mode → Mode → Bool
conflicts wanted held = list_any (λ n. n == mode_number held) (conflicting wanted)
