use Rattle.session_core.proofs.Base.{refl}
use Rattle.session_core.proofs.Words.{performed_both}
use Rattle.session_core.proofs.session.Session.commit_all.Goals as goal

pub returns : goal.returns
returns g c = record {
  performed = performed_both 0 0 _ _ _ _ _ _ _ _ _ c.commit_to.ensures.performed c.commit_top.ensures.performed (λ us vs first second. g.met.E.Emit.emits_more _ _ _ _ _ _ first second refl);
}
