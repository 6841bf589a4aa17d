use Rattle.pgs_turns.proofs.SessionLemmas.{none_held}
use Rattle.run_trials.proofs.stingy.compare.Goals as goal

pub run-ended-requires-clause-empty : goal.run-ended-requires-clause-empty
run-ended-requires-clause-empty g c account = none_held _ account c.in_ok-space.ensures.regions
