use Rattle.session_commands.proofs.Lemmas.{counts_told}
use Rattle.session_commands.proofs.telling.tell_counts.Goals as goal

pub returns : goal.returns
returns g c = record { performed = counts_told _ _ c.requires.between.keeps c.counts.result (c.counts.ensures c.args.shared.now.space.now) c.emit.ensures.emitted }
