use Rattle.std.proofs.Common.{Some, ap, ◌∙◌}
use Rattle.context_rules.specs.Chunks.{zeros}
use Rattle.context_rules.specs.Ends.{waiting}
use Rattle.context_tree.specs.State.{left_of}
use Rattle.context_tree.proofs.Tried.{waiting_allocated}
use Rattle.context_trials.specs.Standing.{contexts_of}
use Rattle.context_trials.proofs.Standing.{stands_put}
use Rattle.context_trials.proofs.trial.Trial.alloc0.Goals as goal

pub returns-clause-stands : goal.returns-clause-stands
returns-clause-stands c =
    stands_put c.args.self.now c.alloc0.new.self c.alloc0.new.space c.args.self.now.out c.requires c.alloc0.ensures.moves c.alloc0.ensures.stays
    (λ e. ap waiting c.in_ok-alloc0.ensures.contexts ∙ waiting_allocated c.in_ok-id.id.number (left_of c.args.self.now.tree c.args.self.now.space) (Some c.args.chunk) c.args.size (zeros c.args.size) (contexts_of c.args.self.now) ∙ e)
