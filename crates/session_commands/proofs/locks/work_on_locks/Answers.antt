use Rattle.session_commands.proofs.Words.{lock_row}
use Rattle.session_commands.proofs.Lemmas.{as_row}
use Rattle.session_commands.proofs.locks.work_on_locks.Goals as goal

pub returns-in-Lock : goal.returns-in-Lock
returns-in-Lock g c = record { performed = as_row lock_row _ _ c.in-Lock.is c.lock.ensures.performed }

pub returns-in-Unlock : goal.returns-in-Unlock
returns-in-Unlock g c = record { performed = as_row lock_row _ _ c.in-Unlock.is c.unlock.ensures.performed }
