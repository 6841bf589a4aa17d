use Rattle.session_core.proofs.Lemmas.{opened_levels}
use Rattle.session_core.proofs.session.Session.start.Goals as goal

pub returns-in-Ok-clause-levels : goal.returns-in-Ok-clause-levels
returns-in-Ok-clause-levels g c = opened_levels _ _ c.in-Ok.ensures.session
