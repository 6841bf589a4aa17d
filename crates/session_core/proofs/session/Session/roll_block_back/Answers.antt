use Rattle.session_core.proofs.Base.{refl}
use Rattle.session_core.proofs.Lemmas.{performed_ok}
use Rattle.session_core.proofs.session.Session.roll_block_back.Goals as goal

pub returns : goal.returns
returns g c = record {
  performed = performed_ok 0 _ _ _ _ _ _ c.roll_back_to.ensures.performed c.emit.ensures.emitted (λ us vs first second. g.met.E.Emit.emits_more _ _ _ _ _ _ first second refl);
}
