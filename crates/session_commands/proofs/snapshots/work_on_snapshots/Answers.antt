use Rattle.session_commands.proofs.Words.{snapshot_row}
use Rattle.session_commands.proofs.Lemmas.{as_row}
use Rattle.session_commands.proofs.snapshots.work_on_snapshots.Goals as goal

pub returns-in-Push : goal.returns-in-Push
returns-in-Push g c = record { performed = as_row snapshot_row _ _ c.in-Push.is c.push.ensures.performed }

pub returns-in-Pop : goal.returns-in-Pop
returns-in-Pop g c = record { performed = as_row snapshot_row _ _ c.in-Pop.is c.pop.ensures.performed }
