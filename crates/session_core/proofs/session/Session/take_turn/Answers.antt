use Rattle.session_core.proofs.Base.{None, Some, refl, ap, option_copied}
use Rattle.session_core.proofs.Lemmas.{steps_of_lines, of_line, of_wanted, turned_bad, turned_err, turned_ok}
use Rattle.session_core.proofs.session.Session.take_turn.Goals as goal

pub recover-requires : goal.recover-requires
recover-requires g c = record { between = steps_of_lines _ c.requires.lines }

pub returns-in_default-clause-turn : goal.returns-in_default-clause-turn
returns-in_default-clause-turn g c = of_line _ None _ _ _ _ (ap option_copied c.in_default.is) (turned_bad _ _ _ c.requires.lines.keeps c.recover.ensures.did)

pub returns-in-Ok-clause-turn : goal.returns-in-Ok-clause-turn
returns-in-Ok-clause-turn g c = of_line _ (Some c.in-Some.command.now) _ _ _ _ (ap option_copied c.in-Some.is) (turned_ok (Some c.in-Some.command.now) _ _ _ c.in-Ok.ensures.performed)

pub returns-in-Err-clause-turn : goal.returns-in-Err-clause-turn
returns-in-Err-clause-turn g c =
    of_line _ (Some c.in-Some.command.now) _ _ _ _ (ap option_copied c.in-Some.is)
    (of_wanted _ _ _ _ _ _ c.is_want.ensures
    (turned_err (Some c.in-Some.command.now) _ _ _ _ _ _ c.in-Err.error c.in-Err.ensures.performed c.recover-in-Err.ensures.did (λ us vs first second. g.met.E.Emit.emits_more _ _ _ _ _ _ first second refl)))
