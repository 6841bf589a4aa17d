-- A reference is an item that only owners keep count of.
use Rattle.session_commands.proofs.Base.{sym, subst}
use Rattle.session_commands.proofs.Words.{IsReference}
use Rattle.session_commands.proofs.Lemmas.{class_counted, takes_as}
use Rattle.session_commands.proofs.items.reference.Goals as goal

pub refer-requires-clause-kind : goal.refer-requires-clause-kind
refer-requires-clause-kind g c = subst IsReference (sym c.kind.ensures) (class_counted c.args.class)

pub returns : goal.returns
returns g c = record { performed = takes_as _ _ c.args.key _ _ _ _ c.kind.ensures c.refer.ensures.performed }
