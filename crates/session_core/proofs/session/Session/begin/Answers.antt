use Rattle.session_core.proofs.Base.{refl}
use Rattle.session_core.proofs.Words.{performed_stop, handed}
use Rattle.session_core.proofs.Lemmas.{performed_ok}
use Rattle.session_core.proofs.session.Session.begin.Goals as goal

pub returns-in_err-start_level-clause-performed : goal.returns-in_err-start_level-clause-performed
returns-in_err-start_level-clause-performed g c = handed _ _ c.from_residual.ensures.1 (performed_stop 3 _ _ _ _ _ _ c.in_err-start_level.ensures.performed)

pub returns-clause-performed : goal.returns-clause-performed
returns-clause-performed g c =
    performed_ok 3 _ _ _ _ _ _ c.in_ok-start_level.ensures.performed c.emit.ensures.emitted
    (λ us vs first second. g.met.E.Emit.emits_more _ _ _ _ _ _ first second refl)
