use Rattle.portal_commands.proofs.Base.{ap, sym, option_and_then}
use Rattle.portal_commands.proofs.Words.{OpenPortal}
use Rattle.portal_commands.proofs.turns.row_context.Goals as goal

pub returns-in-Some-clause-context : goal.returns-in-Some-clause-context
returns-in-Some-clause-context g c name at s = ap (option_and_then (λ (p : OpenPortal). p.expr)) (sym (c.in-Some.ensures.session name at s))

pub returns-in-None-clause-context : goal.returns-in-None-clause-context
returns-in-None-clause-context g c name at s = ap (option_and_then (λ (p : OpenPortal). p.expr)) (sym (c.in-None.ensures.session name at s))
