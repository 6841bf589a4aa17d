-- The three kinds of items are given back in order.
use Rattle.session_ends.proofs.Base.{ℕ, Option, [], ◌∷◌, refl, sym, subst}
use Rattle.session_ends.proofs.Words.{OwnerId, buffer_pin, relcache_reference, snapshot_reference, Scene, Ended, where_there, item_released, Acted, executor_at, number_in}
use Rattle.session_ends.proofs.Lemmas.{acted_end, acted_nowhere, acted_then, out_more}
use Rattle.session_ends.proofs.portals.end_executor.Goals as goal

pub returns-in-None-clause-acted : goal.returns-in-None-clause-acted
returns-in-None-clause-acted g c =
    subst (λ (owner : Option OwnerId). Acted (executor_at (number_in owner) c.args.scan) c.args.store.now c.args.store.now c.args.space.now c.args.space.now c.args.shelf.now c.args.shelf.now c.args.commons.now c.args.commons.now (λ events. g.E.Emit.emits c.args.out.now events c.args.out.now)) (sym c.in-None.is)
    (acted_nowhere _ (λ o events p. g.E.Emit.emits o events p) g.met.E.Emit.emits_none (λ o p q xs ys h k. g.met.E.Emit.emits_more _ _ _ _ _ _ h k refl) c.args.store.now c.args.space.now c.args.shelf.now c.args.commons.now c.args.out.now)

pub returns-clause-acted : goal.returns-clause-acted
returns-clause-acted g c =
    let n : ℕ = c.in-Some.owner.number in
    let f : Scene → Ended = λ scene. where_there c.args.scan.page (item_released n buffer_pin) scene in
    let h : Scene → Ended = item_released n relcache_reference c.args.scan.object in
    let k : Scene → Ended = item_released n snapshot_reference c.args.scan.object in
    let none = g.met.E.Emit.emits_none in
    subst (λ (owner : Option OwnerId). Acted (executor_at (number_in owner) c.args.scan) c.args.store.now c.forget_item-2.new.store c.args.space.now c.forget_item-2.new.space c.args.shelf.now c.forget_item-2.new.shelf c.args.commons.now c.forget_item-2.new.commons (λ events. g.E.Emit.emits c.args.out.now events c.forget_item-2.new.out)) (sym c.in-Some.is)
    (acted_then _ (λ o events p. g.E.Emit.emits o events p) none (λ o p q xs ys h k. g.met.E.Emit.emits_more _ _ _ _ _ _ h k refl) f (h ∷ k ∷ []) c.args.store.now c.unpin.new.store c.forget_item-2.new.store c.args.space.now c.unpin.new.space c.forget_item-2.new.space c.args.shelf.now c.unpin.new.shelf c.forget_item-2.new.shelf c.args.commons.now c.unpin.new.commons c.forget_item-2.new.commons
    c.args.out.now c.unpin.new.out c.forget_item-2.new.out c.unpin.ensures.acted
    (acted_then _ (λ o events p. g.E.Emit.emits o events p) none (λ o p q xs ys h k. g.met.E.Emit.emits_more _ _ _ _ _ _ h k refl) h (k ∷ []) c.unpin.new.store c.forget_item.new.store c.forget_item-2.new.store c.unpin.new.space c.forget_item.new.space c.forget_item-2.new.space c.unpin.new.shelf c.forget_item.new.shelf c.forget_item-2.new.shelf c.unpin.new.commons c.forget_item.new.commons c.forget_item-2.new.commons
    c.unpin.new.out c.forget_item.new.out c.forget_item-2.new.out c.forget_item.ensures.acted
    (acted_then _ (λ o events p. g.E.Emit.emits o events p) none (λ o p q xs ys h k. g.met.E.Emit.emits_more _ _ _ _ _ _ h k refl) k [] c.forget_item.new.store c.forget_item-2.new.store c.forget_item-2.new.store c.forget_item.new.space c.forget_item-2.new.space c.forget_item-2.new.space c.forget_item.new.shelf c.forget_item-2.new.shelf c.forget_item-2.new.shelf c.forget_item.new.commons c.forget_item-2.new.commons c.forget_item-2.new.commons
    c.forget_item.new.out c.forget_item-2.new.out c.forget_item-2.new.out c.forget_item-2.ensures.acted
    (acted_end _ (λ o events p. g.E.Emit.emits o events p) none (λ o p q xs ys h k. g.met.E.Emit.emits_more _ _ _ _ _ _ h k refl) c.forget_item-2.new.store c.forget_item-2.new.space c.forget_item-2.new.shelf c.forget_item-2.new.commons c.forget_item-2.new.out))))

pub returns-clause-out : goal.returns-clause-out
returns-clause-out g c =
    out_more c.args.store.now c.unpin.new.store c.forget_item-2.new.store c.args.space.now c.unpin.new.space c.forget_item-2.new.space c.unpin.ensures.out
    (out_more c.unpin.new.store c.forget_item.new.store c.forget_item-2.new.store c.unpin.new.space c.forget_item.new.space c.forget_item-2.new.space c.forget_item.ensures.out c.forget_item-2.ensures.out)
