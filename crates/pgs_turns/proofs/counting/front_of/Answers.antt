use Rattle.pgs_turns.proofs.Base.{arith}
use Rattle.pgs_turns.proofs.Lemmas.{kept_front}
use Rattle.pgs_turns.proofs.counting.front_of.Goals as goal

pub returns : goal.returns
returns c = kept_front c.args.line.now c.min.result (omega (arith, c.min.ensures))
