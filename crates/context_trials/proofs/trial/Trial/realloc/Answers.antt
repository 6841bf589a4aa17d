use Rattle.std.proofs.Common.{ap, ◌∙◌}
use Rattle.addr_space.specs.Space.{held}
use Rattle.context_rules.specs.Ends.{waiting}
use Rattle.context_trials.specs.Standing.{contexts_of}
use Rattle.context_trials.proofs.Silent.{waiting_resized}
use Rattle.context_trials.proofs.Standing.{stands_put}
use Rattle.context_trials.proofs.trial.Trial.realloc.Goals as goal

pub returns-clause-stands : goal.returns-clause-stands
returns-clause-stands c =
    stands_put c.args.self.now c.realloc.new.self c.realloc.new.space c.args.self.now.out c.requires c.realloc.ensures.moves c.realloc.ensures.stays
    (λ e. ap waiting c.in_ok-realloc.ensures.contexts ∙ waiting_resized (held c.args.self.now.space c.args.self.now.tree.account) c.args.self.now.space.limit c.args.chunk.now c.args.size (contexts_of c.args.self.now) ∙ e)
