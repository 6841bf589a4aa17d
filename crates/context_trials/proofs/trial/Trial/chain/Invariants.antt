use Rattle.context_tree.specs.State.{IsLive}
use Rattle.context_trials.specs.Standing.{Stands}
use Rattle.context_trials.proofs.trial.Trial.chain.Given as goal

abbrev pub invariant-loop : goal.invariant-loop
invariant-loop l = record {
  stands : Stands l.self;
  live : IsLive l.self.tree l.last;
}
