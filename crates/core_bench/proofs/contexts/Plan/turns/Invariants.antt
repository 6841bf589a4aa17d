use Rattle.context_trials.specs.Standing.{Stands}
use Rattle.core_bench.proofs.contexts.Plan.turns.Given as goal

abbrev pub invariant-loop : goal.invariant-loop
invariant-loop l = Stands l.trial
