-- It is an item of the snapshots' kind.
use Rattle.session_commands.proofs.items.unregister_snapshot.Goals as goal

pub returns : goal.returns
returns g c = record { performed = c.give_back.ensures.performed }
