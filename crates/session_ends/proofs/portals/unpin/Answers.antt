-- The page is released, or nothing is done.
use Rattle.session_ends.proofs.Base.{ℕ, Option, refl, sym, subst}
use Rattle.session_ends.proofs.Words.{buffer_pin, where_there, item_released, Acted}
use Rattle.session_ends.proofs.Lemmas.{acted_nowhere}
use Rattle.session_ends.proofs.portals.unpin.Goals as goal

pub returns-in-None-clause-acted : goal.returns-in-None-clause-acted
returns-in-None-clause-acted g c =
    subst (λ (page : Option ℕ). Acted (λ scene. where_there page (item_released c.args.owner.number buffer_pin) scene) c.args.store.now c.args.store.now c.args.space.now c.args.space.now c.args.shelf.now c.args.shelf.now c.args.commons.now c.args.commons.now (λ events. g.E.Emit.emits c.args.out.now events c.args.out.now)) (sym c.in-None.is)
    (acted_nowhere _ (λ o events p. g.E.Emit.emits o events p) g.met.E.Emit.emits_none (λ o p q xs ys h k. g.met.E.Emit.emits_more _ _ _ _ _ _ h k refl) c.args.store.now c.args.space.now c.args.shelf.now c.args.commons.now c.args.out.now)

pub returns-in-Some-clause-acted : goal.returns-in-Some-clause-acted
returns-in-Some-clause-acted g c =
    subst (λ (page : Option ℕ). Acted (λ scene. where_there page (item_released c.args.owner.number buffer_pin) scene) c.args.store.now c.forget_item.new.store c.args.space.now c.forget_item.new.space c.args.shelf.now c.forget_item.new.shelf c.args.commons.now c.forget_item.new.commons (λ events. g.E.Emit.emits c.args.out.now events c.forget_item.new.out)) (sym c.in-Some.is)
    c.forget_item.ensures.acted
