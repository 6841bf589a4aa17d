use Rattle.std.proofs.Common.{ap, ◌∙◌}
use Rattle.context_rules.specs.Ends.{waiting}
use Rattle.context_trials.specs.Standing.{contexts_of}
use Rattle.context_trials.proofs.Silent.{silent_reparented}
use Rattle.context_trials.proofs.Standing.{stands_on}
use Rattle.context_trials.proofs.trial.Trial.reparent.Goals as goal

pub returns-clause-stands : goal.returns-clause-stands
returns-clause-stands c =
    stands_on c.args.self.now c.set_parent.new.self c.args.self.now.space c.set_parent.new.out c.requires (c.set_parent.ensures.moves c.args.self.now.space c.requires.sits.agrees)
    c.set_parent.ensures.places c.set_parent.ensures.current c.set_parent.ensures.next
    (λ e. ap waiting (c.in_ok-set_parent.ensures.contexts c.args.self.now.space) ∙ silent_reparented c.in_ok-id.id.number c.in_ok-below.below.number (contexts_of c.args.self.now) e)
