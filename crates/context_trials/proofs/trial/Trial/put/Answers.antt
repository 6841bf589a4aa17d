use Rattle.std.proofs.Common.{ap, ◌∙◌}
use Rattle.context_rules.specs.Ends.{waiting}
use Rattle.context_tree.proofs.Tried.{waiting_written}
use Rattle.context_trials.specs.Standing.{contexts_of}
use Rattle.context_trials.proofs.Standing.{stands_put}
use Rattle.context_trials.proofs.trial.Trial.put.Goals as goal

pub returns-clause-stands : goal.returns-clause-stands
returns-clause-stands c =
    stands_put c.args.self.now c.put.new.self c.put.new.space c.args.self.now.out c.requires c.put.ensures.moves c.put.ensures.stays
    (λ e. ap waiting c.in_ok-put.ensures.contexts ∙ waiting_written c.args.chunk.now c.args.place c.args.bytes.now (contexts_of c.args.self.now) ∙ e)
