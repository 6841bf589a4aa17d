use Rattle.portal_commands.proofs.Base.{true, refl, arith}
use Rattle.portal_commands.proofs.Words.{Ready, portal_becomes, Element, now, performed_both, stops, then_silent, handed}
use Rattle.portal_commands.proofs.Lemmas.{alone_done, does_ready, has_name}
use Rattle.portal_commands.proofs.making.finish.Goals as goal

pub returns-in_err-take_memory : goal.returns-in_err-take_memory
returns-in_err-take_memory g c = record { performed = handed _ _ c.from_residual.ensures.1 (stops 1 2 _ _ _ _ _ _ (omega arith) c.in_err-take_memory.ensures.performed) }

pub returns-in_err-make_row : goal.returns-in_err-make_row
returns-in_err-make_row g c = record {
  performed =
      handed _ _ c.from_residual-in_err-make_row.ensures.1
      (performed_both 1 1 _ _ _ _ _ _ _ _ _ c.in_ok-take_memory.ensures.performed (stops 1 1 _ _ _ _ _ _ (omega arith) c.in_err-make_row.ensures.performed)
      (λ us vs first second. g.met.E.Emit.emits_more _ _ _ _ _ _ first second refl));
}

pub portal_ready-requires : goal.portal_ready-requires
portal_ready-requires g c = record { there = has_name _ c.make_row.new.shared.space.now c.args.name.now true true true c.in_ok-make_row.ensures.making.way }

pub returns : goal.returns
returns g c = record {
  performed =
      performed_both 1 1 _ _ _ _ _ _ _ _ _ c.in_ok-take_memory.ensures.performed
      (then_silent 1 0 _ _ _ _ _ _ _ c.in_ok-make_row.ensures.performed
      (alone_done (Element.PortalReady c.args.name.now) (portal_becomes c.args.name.now (λ p. record p { state = Ready })) (now c.make_row.new.store c.make_row.new.shared) c.portal_ready.new.store (does_ready c.args.name.now) (λ s. refl) (λ s. refl)
      (c.portal_ready.ensures.acted c.make_row.new.shared.space.now c.make_row.new.shared.shelf.now c.make_row.new.shared.commons.now) c.portal_ready.ensures.alone c.in_ok-make_row.ensures.making.between.keeps))
      (λ us vs first second. g.met.E.Emit.emits_more _ _ _ _ _ _ first second refl);
}
