use Rattle.portal_commands.proofs.Base.{ap, sym, option_and_then}
use Rattle.portal_commands.proofs.Words.{OpenPortal}
use Rattle.portal_commands.proofs.turns.portal_owner.Goals as goal

pub returns-in-Some-clause-owner : goal.returns-in-Some-clause-owner
returns-in-Some-clause-owner g c name at s = ap (option_and_then (λ (p : OpenPortal). p.owner)) (sym (c.in-Some.ensures.session name at s))

pub returns-in-None-clause-owner : goal.returns-in-None-clause-owner
returns-in-None-clause-owner g c name at s = ap (option_and_then (λ (p : OpenPortal). p.owner)) (sym (c.in-None.ensures.session name at s))
