use Rattle.std.proofs.Common.{[], Some, ap, ◌∙◌}
use Rattle.context_rules.specs.Ends.{waiting}
use Rattle.context_tree.specs.State.{left_of}
use Rattle.context_tree.proofs.Tried.{waiting_allocated}
use Rattle.context_trials.specs.Standing.{contexts_of}
use Rattle.context_trials.proofs.Standing.{stands_put}
use Rattle.context_trials.proofs.trial.Trial.alloc.Goals as goal

pub returns-clause-stands : goal.returns-clause-stands
returns-clause-stands c =
    stands_put c.args.self.now c.alloc.new.self c.alloc.new.space c.args.self.now.out c.requires c.alloc.ensures.moves c.alloc.ensures.stays
    (λ e. ap waiting c.in_ok-alloc.ensures.contexts ∙ waiting_allocated c.in_ok-id.id.number (left_of c.args.self.now.tree c.args.self.now.space) (Some c.args.chunk) c.args.size [] (contexts_of c.args.self.now) ∙ e)
