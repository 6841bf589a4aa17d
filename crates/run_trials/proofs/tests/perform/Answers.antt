use Rattle.pgs_turns.proofs.SessionLemmas.{none_held}
use Rattle.run_trials.proofs.tests.perform.Goals as goal

pub run-outcome-requires-clause-empty : goal.run-outcome-requires-clause-empty
run-outcome-requires-clause-empty c account = none_held _ account c.in_ok-space.ensures.regions
