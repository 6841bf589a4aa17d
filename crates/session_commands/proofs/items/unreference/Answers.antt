use Rattle.session_commands.proofs.Lemmas.{give_as}
use Rattle.session_commands.proofs.items.unreference.Goals as goal

pub returns : goal.returns
returns g c = record { performed = give_as _ _ c.args.key _ _ _ _ c.kind.ensures c.give_back.ensures.performed }
