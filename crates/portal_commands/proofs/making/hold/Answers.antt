use Rattle.portal_commands.proofs.Base.{refl, arith}
use Rattle.portal_commands.proofs.Words.{performed_both, stops, handed}
use Rattle.portal_commands.proofs.making.hold.Goals as goal

pub returns-in_err-take_lock-clause-performed : goal.returns-in_err-take_lock-clause-performed
returns-in_err-take_lock-clause-performed g c =
    handed _ _ c.from_residual.ensures.1
    (stops 1 5 _ _ _ _ _ _ (omega arith) c.in_err-take_lock.ensures.performed)

pub returns-in_err-take_reference-clause-performed : goal.returns-in_err-take_reference-clause-performed
returns-in_err-take_reference-clause-performed g c =
    handed _ _ c.from_residual-in_err-take_reference.ensures.1
    (performed_both 1 4 _ _ _ _ _ _ _ _ _ c.in_ok-take_lock.ensures.performed (stops 2 4 _ _ _ _ _ _ (omega arith) c.in_err-take_reference.ensures.performed)
    (λ us vs first second. g.met.E.Emit.emits_more _ _ _ _ _ _ first second refl))

pub returns-clause-performed : goal.returns-clause-performed
returns-clause-performed g c =
    performed_both 1 4 _ _ _ _ _ _ _ _ _ c.in_ok-take_lock.ensures.performed
    (performed_both 2 2 _ _ _ _ _ _ _ _ _ c.in_ok-take_reference.ensures.performed c.take_reference-2.ensures.performed (λ us vs first second. g.met.E.Emit.emits_more _ _ _ _ _ _ first second refl))
    (λ us vs first second. g.met.E.Emit.emits_more _ _ _ _ _ _ first second refl)
