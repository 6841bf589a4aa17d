use Rattle.pgs_io.proofs.PieceLemmas.{All-none_met, none_met-All}
use Rattle.pgs_io.proofs.finding.is_free.Goals as goal

pub returns : goal.returns
returns c = (All-none_met c.args.piece.now c.args.byte c.requires, none_met-All c.args.piece.now c.args.byte c.requires)
