-- The numbers and names of lock modes.
use Rattle.std.specs.Prelude.{ℕ, List, codes}
use Rattle.pgs_step.specs.declared.lock_modes.Mode.{Mode}
use Rattle.pgs_step.specs.declared.lock_modes.Mode.TheVariants.{AccessShareLock, RowShareLock, RowExclusiveLock, ShareUpdateExclusiveLock, ShareLock, ShareRowExclusiveLock, ExclusiveLock, AccessExclusiveLock}

-- PostgreSQL's number of a mode
abbrev pub mode_number : Mode → ℕ
mode_number AccessShareLock = 1
mode_number RowShareLock = 2
mode_number RowExclusiveLock = 3
mode_number ShareUpdateExclusiveLock = 4
mode_number ShareLock = 5
mode_number ShareRowExclusiveLock = 6
mode_number ExclusiveLock = 7
mode_number AccessExclusiveLock = 8

-- how a mode is written
abbrev pub mode_name : Mode → List ℕ
mode_name AccessShareLock = codes "AccessShareLock"
mode_name RowShareLock = codes "RowShareLock"
mode_name RowExclusiveLock = codes "RowExclusiveLock"
mode_name ShareUpdateExclusiveLock = codes "ShareUpdateExclusiveLock"
mode_name ShareLock = codes "ShareLock"
mode_name ShareRowExclusiveLock = codes "ShareRowExclusiveLock"
mode_name ExclusiveLock = codes "ExclusiveLock"
mode_name AccessExclusiveLock = codes "AccessExclusiveLock"
