-- The executor ends, the memory goes, and then the portal does.
use Rattle.session_ends.proofs.Base.{◌≡◌, false, Option, [], ◌∷◌, IfSome, refl, sym, ap, ◌∙◌, subst, option_map}
use Rattle.session_ends.proofs.Words.{CtxId, OwnerId, has_begun, Portal, ResourceState, owners_of, Serves, Scene, Ended, context_gone, portal_gone, where_so, where_there, executor_ended, is_ready, StoreState, portal_state, portals_of, IsEnding, none_left}
use Rattle.session_owners.specs.ResourceState as owners
use Rattle.session_ends.proofs.Lemmas.{acted_end, acted_quiet, acted_then, context_apart, context_live, ending_are, ending_executed, ending_hooks, ending_plans, executor_acted, gone_acted, if_taken, one_level, owner_live, owner_unbegun, out_alone, out_more, portal_lies_out}
use Rattle.session_ends.proofs.portals.close_portal.Goals as goal

pub end_executor-requires-clause-plans : goal.end_executor-requires-clause-plans
end_executor-requires-clause-plans g c =
    ending_plans none_left c.args.store.now c.args.space.now c.args.shelf.now c.args.commons.now c.args.portal c.requires.ending.0 c.requires.ending.1

pub end_executor-requires-clause-live : goal.end_executor-requires-clause-live
end_executor-requires-clause-live g c =
    subst (λ (o : Option OwnerId). IfSome o (owners.IsLive c.args.store.now.owners)) (sym c.running-owner.ensures)
    (if_taken (owners.IsLive c.args.store.now.owners) (is_ready c.args.portal.state) c.args.portal.owner
    (λ ready. owner_live none_left c.args.store.now c.args.space.now c.args.shelf.now c.args.commons.now c.args.portal c.requires.ending.0 c.requires.ending.1 c.requires.lies))

pub end_executor-requires-clause-unbegun : goal.end_executor-requires-clause-unbegun
end_executor-requires-clause-unbegun g c =
    let e : IsEnding none_left c.args.store.now c.args.space.now c.args.shelf.now c.args.commons.now (portal_state c.args.portal ∷ c.requires.ending.0) = c.requires.ending.1 in
    subst (λ (o : Option OwnerId). IfSome o (λ (i : OwnerId). has_begun i.number (owners_of c.args.store.now.owners) ≡ false)) (sym c.running-owner.ensures)
    (if_taken (λ (i : OwnerId). has_begun i.number (owners_of c.args.store.now.owners) ≡ false) (is_ready c.args.portal.state) c.args.portal.owner
    (λ ready. owner_unbegun none_left c.args.store.now c.args.space.now c.args.shelf.now c.args.commons.now c.args.portal c.requires.ending.0 e (one_level c.args.store.now.levels e.level e.above e.are c.requires.one) ready))

pub drop_memory-requires : goal.drop_memory-requires
drop_memory-requires g c =
    let r = c.end_executor.ensures in
    record {
      keeps = c.end_executor.ensures.out.keeps;
      hooks = ending_hooks none_left c.end_executor.new.store c.end_executor.new.space c.end_executor.new.shelf c.end_executor.new.commons c.args.portal c.requires.ending.0
          (ending_executed none_left c.args.store.now c.end_executor.new.store c.args.space.now c.end_executor.new.space c.args.shelf.now c.end_executor.new.shelf c.args.commons.now c.end_executor.new.commons (λ events. g.E.Emit.emits c.args.out.now events c.end_executor.new.out)
          c.args.portal c.requires.ending.0 c.requires.ending.1
          (executor_acted c.args.store.now c.end_executor.new.store c.args.space.now c.end_executor.new.space c.args.shelf.now c.end_executor.new.shelf c.args.commons.now c.end_executor.new.commons (λ events. g.E.Emit.emits c.args.out.now events c.end_executor.new.out) c.args.portal _ c.running-owner.ensures r.acted)
          r.out.levels);
      live = context_live none_left c.end_executor.new.store c.end_executor.new.space c.end_executor.new.shelf c.end_executor.new.commons c.args.portal c.requires.ending.0
          (ending_executed none_left c.args.store.now c.end_executor.new.store c.args.space.now c.end_executor.new.space c.args.shelf.now c.end_executor.new.shelf c.args.commons.now c.end_executor.new.commons (λ events. g.E.Emit.emits c.args.out.now events c.end_executor.new.out)
          c.args.portal c.requires.ending.0 c.requires.ending.1
          (executor_acted c.args.store.now c.end_executor.new.store c.args.space.now c.end_executor.new.space c.args.shelf.now c.end_executor.new.shelf c.args.commons.now c.end_executor.new.commons (λ events. g.E.Emit.emits c.args.out.now events c.end_executor.new.out) c.args.portal _ c.running-owner.ensures r.acted)
          r.out.levels)
          (portal_lies_out c.args.store.now c.end_executor.new.store c.args.space.now c.end_executor.new.space r.out c.args.portal c.requires.lies);
      apart = context_apart none_left c.end_executor.new.store c.end_executor.new.space c.end_executor.new.shelf c.end_executor.new.commons c.args.portal c.requires.ending.0
          (ending_executed none_left c.args.store.now c.end_executor.new.store c.args.space.now c.end_executor.new.space c.args.shelf.now c.end_executor.new.shelf c.args.commons.now c.end_executor.new.commons (λ events. g.E.Emit.emits c.args.out.now events c.end_executor.new.out)
          c.args.portal c.requires.ending.0 c.requires.ending.1
          (executor_acted c.args.store.now c.end_executor.new.store c.args.space.now c.end_executor.new.space c.args.shelf.now c.end_executor.new.shelf c.args.commons.now c.end_executor.new.commons (λ events. g.E.Emit.emits c.args.out.now events c.end_executor.new.out) c.args.portal _ c.running-owner.ensures r.acted)
          r.out.levels);
    }

pub returns : goal.returns
returns g c = record {
  acted =
      let p : Portal = c.args.portal in
      let a : StoreState = c.args.store.now in
      let b : StoreState = c.end_executor.new.store in
      let d : StoreState = c.drop_memory.new.store in
      let f : StoreState = c.take_out.new.store in
      let s = c.args.space.now in
      let t = c.end_executor.new.space in
      let u = c.drop_memory.new.space in
      let x = c.args.shelf.now in
      let y = c.end_executor.new.shelf in
      let z = c.drop_memory.new.shelf in
      let m = c.args.commons.now in
      let k = c.end_executor.new.commons in
      let e : IsEnding none_left a s x m (portal_state p ∷ c.requires.ending.0) = c.requires.ending.1 in
      let none = g.met.E.Emit.emits_none in
      let one : Scene → Ended = where_so (is_ready p.state) (executor_ended (portal_state p)) in
      let two : Scene → Ended = λ scene. where_there (option_map (λ (id : CtxId). id.number) p.context) context_gone scene in
      let same : d.portals ≡ a.portals = c.drop_memory.ensures.portals ∙ c.end_executor.ensures.portals in
      acted_then _ (λ o events p. g.E.Emit.emits o events p) none (λ o p q xs ys h k. g.met.E.Emit.emits_more _ _ _ _ _ _ h k refl) one (two ∷ portal_gone p.name ∷ []) a b f s t u x y z m k k c.args.out.now c.end_executor.new.out c.drop_memory.new.out
      (executor_acted a b s t x y m k (λ events. g.E.Emit.emits c.args.out.now events c.end_executor.new.out) p _ c.running-owner.ensures c.end_executor.ensures.acted)
      (acted_then _ (λ o events p. g.E.Emit.emits o events p) none (λ o p q xs ys h k. g.met.E.Emit.emits_more _ _ _ _ _ _ h k refl) two (portal_gone p.name ∷ []) b d f t u u y z z k k k c.end_executor.new.out c.drop_memory.new.out c.drop_memory.new.out (c.drop_memory.ensures.acted k)
      (acted_then _ (λ o events p. g.E.Emit.emits o events p) none (λ o p q xs ys h k. g.met.E.Emit.emits_more _ _ _ _ _ _ h k refl) (portal_gone p.name) [] d f f u u u z z z k k k c.drop_memory.new.out c.drop_memory.new.out c.drop_memory.new.out
      (acted_quiet _ (λ o events p. g.E.Emit.emits o events p) none (λ o p q xs ys h k. g.met.E.Emit.emits_more _ _ _ _ _ _ h k refl) (portal_gone p.name) d f u u z z k k c.drop_memory.new.out
      (gone_acted d f p e.front c.requires.ending.0 c.take_out.ensures.alone (ap portals_of same ∙ ending_are none_left a s x m p c.requires.ending.0 e) e.ending.different u z k c.take_out.ensures.portals))
      (acted_end _ (λ o events p. g.E.Emit.emits o events p) none (λ o p q xs ys h k. g.met.E.Emit.emits_more _ _ _ _ _ _ h k refl) f u z k c.drop_memory.new.out)));
  out = out_more c.args.store.now c.end_executor.new.store c.take_out.new.store c.args.space.now c.end_executor.new.space c.drop_memory.new.space c.end_executor.ensures.out
      (out_more c.end_executor.new.store c.drop_memory.new.store c.take_out.new.store c.end_executor.new.space c.drop_memory.new.space c.drop_memory.new.space c.drop_memory.ensures.out
      (out_alone c.drop_memory.new.store c.take_out.new.store c.drop_memory.new.space c.drop_memory.ensures.out.keeps c.take_out.ensures.alone));
  serves = subst (λ (q : ResourceState). Serves q c.end_executor.new.commons) (sym (c.take_out.ensures.alone.owners ∙ c.drop_memory.ensures.owners)) c.end_executor.ensures.serves;
}
