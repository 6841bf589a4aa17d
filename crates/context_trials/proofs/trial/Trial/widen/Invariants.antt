use Rattle.context_trials.specs.Standing.{Stands}
use Rattle.context_trials.proofs.trial.Trial.widen.Given as goal

abbrev pub invariant-loop : goal.invariant-loop
invariant-loop l = Stands l.self
