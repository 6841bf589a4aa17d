use Rattle.session_commands.proofs.Words.{OfLevel}
use Rattle.session_commands.proofs.Lemmas.{one_call}
use Rattle.session_commands.proofs.locks.lock.Goals as goal

pub returns : goal.returns
returns g c = record { performed = one_call (c.hold_lock.ensures.performed OfLevel c.owner_of_level-owner.ensures.owner) }
