use Rattle.std.proofs.Common.{ap, sum_by}
use Rattle.addr_space.specs.Space.{held, share}
use Rattle.pgnodes.proofs.trial.four_rows_are_played.Goals as goal

pub play-played-requires-clause-nothing : goal.play-played-requires-clause-nothing
unfolding held
play-played-requires-clause-nothing g c = ap (sum_by (share 0)) c.in_ok-space.ensures.regions
