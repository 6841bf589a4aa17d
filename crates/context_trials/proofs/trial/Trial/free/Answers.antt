use Rattle.std.proofs.Common.{ap, ◌∙◌}
use Rattle.context_rules.specs.Ends.{waiting}
use Rattle.context_trials.specs.Standing.{contexts_of}
use Rattle.context_trials.proofs.Silent.{waiting_freed}
use Rattle.context_trials.proofs.Standing.{stands_put}
use Rattle.context_trials.proofs.trial.Trial.free.Goals as goal

pub returns-clause-stands : goal.returns-clause-stands
returns-clause-stands c =
    stands_put c.args.self.now c.free.new.self c.free.new.space c.args.self.now.out c.requires c.free.ensures.moves c.free.ensures.stays
    (λ e. ap waiting c.in_ok-free.ensures.contexts ∙ waiting_freed c.args.chunk.now (contexts_of c.args.self.now) ∙ e)
