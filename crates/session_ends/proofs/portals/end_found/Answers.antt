-- The executor ends, the owner and the memory go, and then the portal does.
use Rattle.session_ends.proofs.Base.{◌≡◌, ℕ, false, Option, Some, List, [], ◌∷◌, IfSome, refl, sym, ap, ◌∙◌, subst, option_map}
use Rattle.session_ends.proofs.Words.{parent_of, CtxId, OwnerId, has_begun, Portal, ResourceState, owners_of, Serves, Level, Scene, Ended, context_gone, in_order, portal_gone, where_so, where_there, executor_ended, is_ready, portal_owner_ended, IsWorking, Stands, StoreState, levels_of, portal_state, portals_of, scene_of, nowhere, acted_as, executor_at, number_in, owner_ended}
use Rattle.session_owners.specs.ResourceState as owners
use Rattle.session_rules.specs.Lookup as rules
use Rattle.session_ends.proofs.Lemmas.{acted_end, acted_quiet, acted_then, executor_acted, gone_acted, if_taken, out_alone, out_more, portal_lies_out, both_are, executed_stands, found_below, found_different, found_named, found_owner_live, found_place, found_plans, found_unbegun, left_apart, left_descriptors, left_hooks, left_live, named_state}
use Rattle.session_ends.proofs.portals.end_found.Goals as goal

pub end_executor-requires-clause-plans : goal.end_executor-requires-clause-plans
end_executor-requires-clause-plans g c = found_plans c.args.store.now c.args.space.now c.args.shelf.now c.args.commons.now (c.requires.stands nowhere) c.requires.working c.args.portal (named_state c.args.portal.name c.args.store.now.portals c.args.portal c.requires.there)

pub end_executor-requires-clause-live : goal.end_executor-requires-clause-live
end_executor-requires-clause-live g c =
    subst (λ (o : Option OwnerId). IfSome o (owners.IsLive c.args.store.now.owners)) (sym c.running-owner.ensures)
    (if_taken (owners.IsLive c.args.store.now.owners) (is_ready c.args.portal.state) c.args.portal.owner (λ _. found_owner_live c.args.store.now c.args.space.now c.args.shelf.now c.args.commons.now (c.requires.stands nowhere) c.requires.working c.args.portal (named_state c.args.portal.name c.args.store.now.portals c.args.portal c.requires.there) c.requires.lies))

pub end_executor-requires-clause-unbegun : goal.end_executor-requires-clause-unbegun
end_executor-requires-clause-unbegun g c =
    subst (λ (o : Option OwnerId). IfSome o (λ (i : OwnerId). has_begun i.number (owners_of c.args.store.now.owners) ≡ false)) (sym c.running-owner.ensures)
    (if_taken (λ (i : OwnerId). has_begun i.number (owners_of c.args.store.now.owners) ≡ false) (is_ready c.args.portal.state) c.args.portal.owner (λ _. found_unbegun c.args.store.now c.args.space.now c.args.shelf.now c.args.commons.now (c.requires.stands nowhere) c.requires.working c.args.portal (named_state c.args.portal.name c.args.store.now.portals c.args.portal c.requires.there)))

pub end_owner-requires-clause-keeps : goal.end_owner-requires-clause-keeps
end_owner-requires-clause-keeps g c = c.end_executor.ensures.out.keeps

pub end_owner-requires-clause-live : goal.end_owner-requires-clause-live
end_owner-requires-clause-live g c =
    let stands : Stands (scene_of c.end_executor.new.store c.end_executor.new.space c.end_executor.new.shelf c.end_executor.new.commons nowhere) =
    (executed_stands c.args.store.now c.args.space.now c.args.shelf.now c.args.commons.now (c.requires.stands nowhere) c.requires.working c.args.portal (named_state c.args.portal.name c.args.store.now.portals c.args.portal c.requires.there) c.end_executor.new.store c.end_executor.new.space c.end_executor.new.shelf c.end_executor.new.commons (λ events. g.E.Emit.emits c.args.out.now events c.end_executor.new.out) (executor_acted c.args.store.now c.end_executor.new.store c.args.space.now c.end_executor.new.space c.args.shelf.now c.end_executor.new.shelf c.args.commons.now c.end_executor.new.commons (λ events. g.E.Emit.emits c.args.out.now events c.end_executor.new.out) c.args.portal _ c.running-owner.ensures c.end_executor.ensures.acted)) in
    let working : IsWorking (levels_of c.end_executor.new.store.levels) = (subst (λ (ls : List Level). IsWorking (levels_of ls)) (sym c.end_executor.ensures.out.levels) c.requires.working) in
    let named : rules.portal_named c.args.portal.name (portals_of c.end_executor.new.store.portals) ≡ Some (portal_state c.args.portal) = (ap (λ (ps : List Portal). rules.portal_named c.args.portal.name (portals_of ps)) c.end_executor.ensures.portals ∙ named_state c.args.portal.name c.args.store.now.portals c.args.portal c.requires.there) in
    subst (λ (o : Option OwnerId). IfSome o (owners.IsLive c.end_executor.new.store.owners)) (sym c.running-owner.ensures)
    (if_taken (owners.IsLive c.end_executor.new.store.owners) (is_ready c.args.portal.state) c.args.portal.owner
    (λ _. found_owner_live c.end_executor.new.store c.end_executor.new.space c.end_executor.new.shelf c.end_executor.new.commons stands working c.args.portal named (portal_lies_out c.args.store.now c.end_executor.new.store c.args.space.now c.end_executor.new.space c.end_executor.ensures.out c.args.portal c.requires.lies)))

pub end_owner-requires-clause-below : goal.end_owner-requires-clause-below
end_owner-requires-clause-below g c =
    let stands : Stands (scene_of c.end_executor.new.store c.end_executor.new.space c.end_executor.new.shelf c.end_executor.new.commons nowhere) =
    (executed_stands c.args.store.now c.args.space.now c.args.shelf.now c.args.commons.now (c.requires.stands nowhere) c.requires.working c.args.portal (named_state c.args.portal.name c.args.store.now.portals c.args.portal c.requires.there) c.end_executor.new.store c.end_executor.new.space c.end_executor.new.shelf c.end_executor.new.commons (λ events. g.E.Emit.emits c.args.out.now events c.end_executor.new.out) (executor_acted c.args.store.now c.end_executor.new.store c.args.space.now c.end_executor.new.space c.args.shelf.now c.end_executor.new.shelf c.args.commons.now c.end_executor.new.commons (λ events. g.E.Emit.emits c.args.out.now events c.end_executor.new.out) c.args.portal _ c.running-owner.ensures c.end_executor.ensures.acted)) in
    let working : IsWorking (levels_of c.end_executor.new.store.levels) = (subst (λ (ls : List Level). IsWorking (levels_of ls)) (sym c.end_executor.ensures.out.levels) c.requires.working) in
    let named : rules.portal_named c.args.portal.name (portals_of c.end_executor.new.store.portals) ≡ Some (portal_state c.args.portal) = (ap (λ (ps : List Portal). rules.portal_named c.args.portal.name (portals_of ps)) c.end_executor.ensures.portals ∙ named_state c.args.portal.name c.args.store.now.portals c.args.portal c.requires.there) in
    subst (λ (o : Option OwnerId). IfSome o (λ (i : OwnerId). (q : ℕ) × (parent_of i.number (owners_of c.end_executor.new.store.owners) ≡ Some q))) (sym c.running-owner.ensures)
    (if_taken (λ (i : OwnerId). (q : ℕ) × (parent_of i.number (owners_of c.end_executor.new.store.owners) ≡ Some q)) (is_ready c.args.portal.state) c.args.portal.owner (λ _. found_below c.end_executor.new.store c.end_executor.new.space c.end_executor.new.shelf c.end_executor.new.commons stands working c.args.portal named))

pub drop_memory-requires : goal.drop_memory-requires
drop_memory-requires g c =
    let stands : Stands (scene_of c.end_executor.new.store c.end_executor.new.space c.end_executor.new.shelf c.end_executor.new.commons nowhere) =
    (executed_stands c.args.store.now c.args.space.now c.args.shelf.now c.args.commons.now (c.requires.stands nowhere) c.requires.working c.args.portal (named_state c.args.portal.name c.args.store.now.portals c.args.portal c.requires.there) c.end_executor.new.store c.end_executor.new.space c.end_executor.new.shelf c.end_executor.new.commons (λ events. g.E.Emit.emits c.args.out.now events c.end_executor.new.out) (executor_acted c.args.store.now c.end_executor.new.store c.args.space.now c.end_executor.new.space c.args.shelf.now c.end_executor.new.shelf c.args.commons.now c.end_executor.new.commons (λ events. g.E.Emit.emits c.args.out.now events c.end_executor.new.out) c.args.portal _ c.running-owner.ensures c.end_executor.ensures.acted)) in
    let working : IsWorking (levels_of c.end_executor.new.store.levels) = (subst (λ (ls : List Level). IsWorking (levels_of ls)) (sym c.end_executor.ensures.out.levels) c.requires.working) in
    let named : rules.portal_named c.args.portal.name (portals_of c.end_executor.new.store.portals) ≡ Some (portal_state c.args.portal) = (ap (λ (ps : List Portal). rules.portal_named c.args.portal.name (portals_of ps)) c.end_executor.ensures.portals ∙ named_state c.args.portal.name c.args.store.now.portals c.args.portal c.requires.there) in
    record {
      keeps = c.end_owner.ensures.out.keeps;
      hooks = left_hooks c.end_executor.new.store c.end_owner.new.store c.end_executor.new.space c.end_owner.new.space c.end_executor.new.shelf c.end_owner.new.shelf c.end_executor.new.commons c.end_owner.new.commons (λ events. g.E.Emit.emits c.end_executor.new.out events c.end_owner.new.out) c.running-owner.result stands c.end_owner.ensures.acted;
      live = left_live c.end_executor.new.store c.end_owner.new.store c.end_executor.new.space c.end_owner.new.space c.end_executor.new.shelf c.end_owner.new.shelf c.end_executor.new.commons c.end_owner.new.commons (λ events. g.E.Emit.emits c.end_executor.new.out events c.end_owner.new.out) c.running-owner.result stands c.end_owner.ensures.acted c.args.portal (found_place c.end_executor.new.store c.end_executor.new.space c.end_executor.new.shelf c.end_executor.new.commons stands working c.args.portal named)
          (portal_lies_out c.end_executor.new.store c.end_owner.new.store c.end_executor.new.space c.end_owner.new.space c.end_owner.ensures.out c.args.portal
          (portal_lies_out c.args.store.now c.end_executor.new.store c.args.space.now c.end_executor.new.space c.end_executor.ensures.out c.args.portal c.requires.lies));
      apart = left_apart c.end_executor.new.store c.end_owner.new.store c.end_executor.new.space c.end_owner.new.space c.end_executor.new.shelf c.end_owner.new.shelf c.end_executor.new.commons c.end_owner.new.commons (λ events. g.E.Emit.emits c.end_executor.new.out events c.end_owner.new.out) c.running-owner.result stands c.end_owner.ensures.acted c.args.portal (found_place c.end_executor.new.store c.end_executor.new.space c.end_executor.new.shelf c.end_executor.new.commons stands working c.args.portal named);
    }

pub returns : goal.returns
returns g c = record {
  acted =
      let p : Portal = c.args.portal in
      let a : StoreState = c.args.store.now in
      let b : StoreState = c.end_executor.new.store in
      let d : StoreState = c.end_owner.new.store in
      let e : StoreState = c.drop_memory.new.store in
      let f : StoreState = c.take_out.new.store in
      let s = c.args.space.now in
      let t = c.end_executor.new.space in
      let u = c.end_owner.new.space in
      let v = c.drop_memory.new.space in
      let x = c.args.shelf.now in
      let y = c.end_executor.new.shelf in
      let z = c.end_owner.new.shelf in
      let w = c.drop_memory.new.shelf in
      let m = c.args.commons.now in
      let k = c.end_executor.new.commons in
      let j = c.end_owner.new.commons in
      let o = c.running-owner.result in
      let none = g.met.E.Emit.emits_none in
      let n = found_named c.args.store.now c.args.space.now c.args.shelf.now c.args.commons.now (c.requires.stands nowhere) c.requires.working c.args.portal (named_state c.args.portal.name c.args.store.now.portals c.args.portal c.requires.there) in
      let one : Scene → Ended = where_so (is_ready p.state) (in_order (executor_ended (portal_state p) ∷ portal_owner_ended (portal_state p) ∷ [])) in
      let two : Scene → Ended = λ scene. where_there (option_map (λ (id : CtxId). id.number) p.context) context_gone scene in
      let same : e.portals ≡ a.portals = c.drop_memory.ensures.portals ∙ c.end_owner.ensures.portals ∙ c.end_executor.ensures.portals in
      acted_then _ (λ o events p. g.E.Emit.emits o events p) none (λ o p q xs ys h k. g.met.E.Emit.emits_more _ _ _ _ _ _ h k refl) one (two ∷ portal_gone p.name ∷ []) a d f s u v x z w m j j c.args.out.now c.end_owner.new.out c.drop_memory.new.out
      (acted_as (in_order (executor_at (number_in o) p.scan ∷ owner_ended (number_in o) ∷ [])) one a d s u x z m j (λ events. g.E.Emit.emits c.args.out.now events c.end_owner.new.out)
      (λ around. both_are p o (scene_of a s x m around) c.running-owner.ensures)
      (acted_then _ (λ o events p. g.E.Emit.emits o events p) none (λ o p q xs ys h k. g.met.E.Emit.emits_more _ _ _ _ _ _ h k refl) (executor_at (number_in o) p.scan) (owner_ended (number_in o) ∷ []) a b d s t u x y z m k j c.args.out.now c.end_executor.new.out c.end_owner.new.out c.end_executor.ensures.acted
      (acted_then _ (λ o events p. g.E.Emit.emits o events p) none (λ o p q xs ys h k. g.met.E.Emit.emits_more _ _ _ _ _ _ h k refl) (owner_ended (number_in o)) [] b d d t u u y z z k j j c.end_executor.new.out c.end_owner.new.out c.end_owner.new.out c.end_owner.ensures.acted
      (acted_end _ (λ o events p. g.E.Emit.emits o events p) none (λ o p q xs ys h k. g.met.E.Emit.emits_more _ _ _ _ _ _ h k refl) d u z j c.end_owner.new.out))))
      (acted_then _ (λ o events p. g.E.Emit.emits o events p) none (λ o p q xs ys h k. g.met.E.Emit.emits_more _ _ _ _ _ _ h k refl) two (portal_gone p.name ∷ []) d e f u v v z w w j j j c.end_owner.new.out c.drop_memory.new.out c.drop_memory.new.out (c.drop_memory.ensures.acted j)
      (acted_then _ (λ o events p. g.E.Emit.emits o events p) none (λ o p q xs ys h k. g.met.E.Emit.emits_more _ _ _ _ _ _ h k refl) (portal_gone p.name) [] e f f v v v w w w j j j c.drop_memory.new.out c.drop_memory.new.out c.drop_memory.new.out
      (acted_quiet _ (λ o events p. g.E.Emit.emits o events p) none (λ o p q xs ys h k. g.met.E.Emit.emits_more _ _ _ _ _ _ h k refl) (portal_gone p.name) e f v v w w j j c.drop_memory.new.out
      (gone_acted e f p n.front n.back c.take_out.ensures.alone (ap portals_of same ∙ n.is) (found_different c.args.store.now c.args.space.now c.args.shelf.now c.args.commons.now (c.requires.stands nowhere) c.requires.working c.args.portal (named_state c.args.portal.name c.args.store.now.portals c.args.portal c.requires.there)) v w j c.take_out.ensures.portals))
      (acted_end _ (λ o events p. g.E.Emit.emits o events p) none (λ o p q xs ys h k. g.met.E.Emit.emits_more _ _ _ _ _ _ h k refl) f v w j c.drop_memory.new.out)));
  out = out_more c.args.store.now c.end_executor.new.store c.take_out.new.store c.args.space.now c.end_executor.new.space c.drop_memory.new.space c.end_executor.ensures.out
      (out_more c.end_executor.new.store c.end_owner.new.store c.take_out.new.store c.end_executor.new.space c.end_owner.new.space c.drop_memory.new.space c.end_owner.ensures.out
      (out_more c.end_owner.new.store c.drop_memory.new.store c.take_out.new.store c.end_owner.new.space c.drop_memory.new.space c.drop_memory.new.space c.drop_memory.ensures.out
      (out_alone c.drop_memory.new.store c.take_out.new.store c.drop_memory.new.space c.drop_memory.ensures.out.keeps c.take_out.ensures.alone)));
  descriptors =
      let stands : Stands (scene_of c.end_executor.new.store c.end_executor.new.space c.end_executor.new.shelf c.end_executor.new.commons nowhere) =
      (executed_stands c.args.store.now c.args.space.now c.args.shelf.now c.args.commons.now (c.requires.stands nowhere) c.requires.working c.args.portal (named_state c.args.portal.name c.args.store.now.portals c.args.portal c.requires.there) c.end_executor.new.store c.end_executor.new.space c.end_executor.new.shelf c.end_executor.new.commons (λ events. g.E.Emit.emits c.args.out.now events c.end_executor.new.out) (executor_acted c.args.store.now c.end_executor.new.store c.args.space.now c.end_executor.new.space c.args.shelf.now c.end_executor.new.shelf c.args.commons.now c.end_executor.new.commons (λ events. g.E.Emit.emits c.args.out.now events c.end_executor.new.out) c.args.portal _ c.running-owner.ensures c.end_executor.ensures.acted)) in
      let working : IsWorking (levels_of c.end_executor.new.store.levels) = (subst (λ (ls : List Level). IsWorking (levels_of ls)) (sym c.end_executor.ensures.out.levels) c.requires.working) in
      let named : rules.portal_named c.args.portal.name (portals_of c.end_executor.new.store.portals) ≡ Some (portal_state c.args.portal) = (ap (λ (ps : List Portal). rules.portal_named c.args.portal.name (portals_of ps)) c.end_executor.ensures.portals ∙ named_state c.args.portal.name c.args.store.now.portals c.args.portal c.requires.there) in
      ap (λ (q : ResourceState). q.descriptors) (c.take_out.ensures.alone.owners ∙ c.drop_memory.ensures.owners) ∙ left_descriptors c.end_executor.new.store c.end_owner.new.store c.end_executor.new.space c.end_owner.new.space c.end_executor.new.shelf c.end_owner.new.shelf c.end_executor.new.commons c.end_owner.new.commons (λ events. g.E.Emit.emits c.end_executor.new.out events c.end_owner.new.out) c.running-owner.result stands c.end_owner.ensures.acted ∙ c.end_executor.ensures.descriptors;
  serves = subst (λ (q : ResourceState). Serves q c.end_owner.new.commons) (sym (c.take_out.ensures.alone.owners ∙ c.drop_memory.ensures.owners)) c.end_owner.ensures.serves;
}
