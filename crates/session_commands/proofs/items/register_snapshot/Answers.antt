-- A reference to a snapshot is an item that only owners keep count of.
use Rattle.session_commands.proofs.Lemmas.{snapshot_counted}
use Rattle.session_commands.proofs.items.register_snapshot.Goals as goal

pub refer-requires-clause-kind : goal.refer-requires-clause-kind
refer-requires-clause-kind g c = snapshot_counted

pub returns : goal.returns
returns g c = record { performed = c.refer.ensures.performed }
