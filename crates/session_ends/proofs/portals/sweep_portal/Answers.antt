-- A portal of the level goes with its memory; another one stays.
use Rattle.session_ends.proofs.Base.{Bool, [], ◌∷◌, refl, sym, ap, ◌∙◌, subst, arith, option_map, eq-eqb, ne_eqb}
use Rattle.session_ends.proofs.Words.{CtxId, Portal, Scene, Ended, context_gone, in_order, nothing, portal_gone, where_so, where_there, StoreState, portal_state, portals_of, scene_of, acted_as, IsEnding, left_by, portal_after, Goes}
use Rattle.session_owners.specs.ResourceState as owners
use Rattle.session_ends.proofs.Lemmas.{acted_end, acted_nowhere, acted_quiet, acted_then, context_apart, context_live, ending_are, ending_hooks, gone_acted, out_alone, out_more, out_nothing}
use Rattle.session_ends.proofs.portals.sweep_portal.Goals as goal

pub returns-then-portal-level-clause-acted : goal.returns-then-portal-level-clause-acted
returns-then-portal-level-clause-acted g c m =
    acted_as nothing (portal_after Goes c.args.level (portal_state c.args.portal)) c.args.store.now c.args.store.now c.args.space.now c.args.space.now c.args.shelf.now c.args.shelf.now m m (λ events. g.E.Emit.emits c.args.out.now events c.args.out.now)
    (λ around. ap (λ (b : Bool). where_so b (in_order (where_there (portal_state c.args.portal).context context_gone ∷ portal_gone c.args.portal.name ∷ [])) (scene_of c.args.store.now c.args.space.now c.args.shelf.now m around)) (sym (ne_eqb c.args.portal.created c.args.level (λ e. omega (arith, e)))))
    (acted_nowhere _ (λ o events p. g.E.Emit.emits o events p) g.met.E.Emit.emits_none (λ o p q xs ys h k. g.met.E.Emit.emits_more _ _ _ _ _ _ h k refl) c.args.store.now c.args.space.now c.args.shelf.now m c.args.out.now)

pub returns-then-portal-level-clause-out : goal.returns-then-portal-level-clause-out
returns-then-portal-level-clause-out g c = out_nothing c.args.store.now c.args.space.now c.requires.keeps

pub drop_memory-requires-clause-hooks : goal.drop_memory-requires-clause-hooks
drop_memory-requires-clause-hooks g c = ending_hooks (left_by Goes) c.args.store.now c.args.space.now c.args.shelf.now c.requires.ending.0 c.args.portal c.requires.ending.1.0 c.requires.ending.1.1

pub drop_memory-requires-clause-live : goal.drop_memory-requires-clause-live
drop_memory-requires-clause-live g c = context_live (left_by Goes) c.args.store.now c.args.space.now c.args.shelf.now c.requires.ending.0 c.args.portal c.requires.ending.1.0 c.requires.ending.1.1 c.requires.lies

pub drop_memory-requires-clause-apart : goal.drop_memory-requires-clause-apart
drop_memory-requires-clause-apart g c = context_apart (left_by Goes) c.args.store.now c.args.space.now c.args.shelf.now c.requires.ending.0 c.args.portal c.requires.ending.1.0 c.requires.ending.1.1

pub returns : goal.returns
returns g c = record {
  acted = λ m. let p : Portal = c.args.portal in
      let a : StoreState = c.args.store.now in
      let b : StoreState = c.drop_memory.new.store in
      let d : StoreState = c.take_out.new.store in
      let s = c.args.space.now in
      let t = c.drop_memory.new.space in
      let x = c.args.shelf.now in
      let y = c.drop_memory.new.shelf in
      let e : IsEnding (left_by Goes) a s x c.requires.ending.0 (portal_state p ∷ c.requires.ending.1.0) = c.requires.ending.1.1 in
      let none = g.met.E.Emit.emits_none in
      let one : Scene → Ended = λ scene. where_there (option_map (λ (id : CtxId). id.number) p.context) context_gone scene in
      acted_as (in_order (one ∷ portal_gone p.name ∷ [])) (portal_after Goes c.args.level (portal_state p)) a d s t x y m m (λ events. g.E.Emit.emits c.args.out.now events c.drop_memory.new.out)
      (λ around. ap (λ (b : Bool). where_so b (in_order (where_there (portal_state p).context context_gone ∷ portal_gone p.name ∷ [])) (scene_of a s x m around)) (sym (eq-eqb c.args.portal.created c.args.level (omega arith))))
      (acted_then _ (λ o events p. g.E.Emit.emits o events p) none (λ o p q xs ys h k. g.met.E.Emit.emits_more _ _ _ _ _ _ h k refl) one (portal_gone p.name ∷ []) a b d s t t x y y m m m c.args.out.now c.drop_memory.new.out c.drop_memory.new.out (c.drop_memory.ensures.acted m)
      (acted_then _ (λ o events p. g.E.Emit.emits o events p) none (λ o p q xs ys h k. g.met.E.Emit.emits_more _ _ _ _ _ _ h k refl) (portal_gone p.name) [] b d d t t t y y y m m m c.drop_memory.new.out c.drop_memory.new.out c.drop_memory.new.out
      (acted_quiet _ (λ o events p. g.E.Emit.emits o events p) none (λ o p q xs ys h k. g.met.E.Emit.emits_more _ _ _ _ _ _ h k refl) (portal_gone p.name) b d t t y y m m c.drop_memory.new.out
      (gone_acted b d p e.front c.requires.ending.1.0 c.take_out.ensures.alone (ap portals_of c.drop_memory.ensures.portals ∙ ending_are (left_by Goes) a s x c.requires.ending.0 p c.requires.ending.1.0 e) e.ending.different t y m c.take_out.ensures.portals))
      (acted_end _ (λ o events p. g.E.Emit.emits o events p) none (λ o p q xs ys h k. g.met.E.Emit.emits_more _ _ _ _ _ _ h k refl) d t y m c.drop_memory.new.out)));
  out = out_more c.args.store.now c.drop_memory.new.store c.take_out.new.store c.args.space.now c.drop_memory.new.space c.drop_memory.new.space c.drop_memory.ensures.out
      (out_alone c.drop_memory.new.store c.take_out.new.store c.drop_memory.new.space c.drop_memory.ensures.out.keeps c.take_out.ensures.alone);
  stays = λ id live. subst (λ q. owners.IsLive q id) (sym (c.take_out.ensures.alone.owners ∙ c.drop_memory.ensures.owners)) live;
}
