use Rattle.session_commands.proofs.Base.{refl}
use Rattle.session_commands.proofs.Lemmas.{enlarge, call_done, call_injected, call_wants, handed}
use Rattle.session_commands.proofs.steps.enlarge.Goals as goal

pub returns-in_err-next-clause-performed : goal.returns-in_err-next-clause-performed
returns-in_err-next-clause-performed g c role =
    handed _ _ c.from_residual.ensures.1 (call_injected (enlarge role) _ _ _ c.next.ensures.counted refl c.requires.between.keeps refl refl refl _ c.in_err-next.ensures.injected)

pub returns-clause-performed : goal.returns-clause-performed
returns-clause-performed g c role =
    let space = c.args.shared.now.space.now in
    call_done (enlarge role) _ _ _ c.next.ensures.counted refl c.requires.between.keeps c.in_ok-next.ensures.goes (λ around. refl) (c.enlarge.ensures.alone c.args.shared.now.commons.now).tree ((c.enlarge.ensures.alone c.args.shared.now.commons.now).keeps space c.requires.between.keeps) (c.enlarge.ensures.acted space c.args.shared.now.shelf.now c.args.shared.now.commons.now)

pub returns-in-Err-clause-performed : goal.returns-in-Err-clause-performed
returns-in-Err-clause-performed g c role =
    call_wants (enlarge role) _ _ _ c.next.ensures.counted refl c.requires.between.keeps refl refl c.in-Err.ensures.refused c.in_ok-next.ensures.goes
