-- How a session's locks are stored as a value.
use Rattle.std.specs.Prelude.{◌≡◌, ℕ, ◌==◌, if◌then◌else◌, List, refl}
use Rattle.std.specs.Coded.{Coded, code_by, coded×, coded_ℕ, coded_list}
use Rattle.pgs_step.specs.declared.lock_modes.Mode.{Mode}
use Rattle.pgs_step.specs.declared.lock_modes.Mode.TheVariants.{AccessShareLock, RowShareLock, RowExclusiveLock, ShareUpdateExclusiveLock, ShareLock, ShareRowExclusiveLock, ExclusiveLock, AccessExclusiveLock}
use Rattle.pgs_step.specs.Mode.{mode_number}
use Rattle.lock_local.specs.declared.local_lock.OwnerCount.{OwnerCount}
use Rattle.lock_local.specs.Locks.{Lock}

-- the mode of a number
abbrev pub mode_of : ℕ → Mode
mode_of n =
    if n == 1 then AccessShareLock else (if n == 2 then RowShareLock else (if n == 3 then RowExclusiveLock
    else (if n == 4 then ShareUpdateExclusiveLock else (if n == 5 then ShareLock else (if n == 6 then ShareRowExclusiveLock
    else (if n == 7 then ExclusiveLock else AccessExclusiveLock))))))

pub mode_again : (mode : Mode) → mode_of (mode_number mode) ≡ mode
mode_again AccessShareLock = refl
mode_again RowShareLock = refl
mode_again RowExclusiveLock = refl
mode_again ShareUpdateExclusiveLock = refl
mode_again ShareLock = refl
mode_again ShareRowExclusiveLock = refl
mode_again ExclusiveLock = refl
mode_again AccessExclusiveLock = refl

abbrev pub mode_code : Coded Mode
mode_code = code_by ℕ coded_ℕ mode_number mode_of mode_again

abbrev pub owner_count_code : Coded OwnerCount
owner_count_code = code_by (ℕ × ℕ) (coded× coded_ℕ coded_ℕ) (λ c. (c.owner, c.count)) (λ p. record { owner = p.0; count = p.1 }) (λ _. refl)

abbrev pub lock_code : Coded Lock
lock_code =
    code_by (ℕ × (Mode × List OwnerCount)) (coded× coded_ℕ (coded× mode_code (coded_list owner_count_code)))
    (λ l. (l.object, (l.mode, l.owners))) (λ p. record { object = p.0; mode = p.1.0; owners = p.1.1 }) (λ _. refl)
