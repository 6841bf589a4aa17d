use Rattle.session_core.proofs.Base.{length}
use Rattle.session_core.proofs.Words.{now}
use Rattle.session_core.proofs.Lemmas.{IsRolling}
use Rattle.session_core.proofs.session.Session.roll_back_to.Given as goal

-- what is done and what remains is what is to be done in all
abbrev pub invariant-loop-self : goal.invariant-loop-self
invariant-loop-self g l = IsRolling l.level (now l.initial.self l.initial.shared) (now l.self l.shared) (λ events. g.E.Emit.emits l.initial.out events l.out)

abbrev pub decreases-loop-self : goal.decreases-loop-self
decreases-loop-self g l = length l.self.levels
