-- The item is one of the kind of the name.
use Rattle.session_commands.proofs.Base.{sym}
use Rattle.session_commands.proofs.Lemmas.{dropped, no_kind}
use Rattle.session_commands.proofs.extensions.give_up.Goals as goal

pub returns-in_default : goal.returns-in_default
returns-in_default g c = record { performed = no_kind c.args.name.now _ _ _ (sym c.in_default.ensures.kind) c.requires.between.keeps (g.met.E.Emit.emits_none c.args.out.now) }

pub returns : goal.returns
returns g c = record { performed = dropped c.args.name.now c.in-Some.kind c.args.key _ (sym c.in-Some.ensures.kind) c.requires.between.keeps _ _ _ c.give_back.ensures.performed }
