use Rattle.session_commands.proofs.Lemmas.{reported}
use Rattle.session_commands.proofs.telling.tell_contexts.Goals as goal

pub returns : goal.returns
returns g c = record { performed = reported _ _ c.requires.between.keeps (c.report.ensures c.args.shared.now.space.now) }
