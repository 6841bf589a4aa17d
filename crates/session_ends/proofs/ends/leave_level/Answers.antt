-- The level goes as the rules say, and what lies elsewhere still does.
use Rattle.session_ends.proofs.Base.{◌≡◌, false, List, Option, ◌∷◌, [], ◌++◌, IfSome, refl, sym, ap, ◌∙◌, subst, MatchOption, drop, unwrap_or}
use Rattle.session_ends.proofs.Words.{Asks, Space, CtxId, has, gone, is_within, Did, DidNothing, TreeState, Agrees, HooksFit, IsLive, Moves, place_of, stands_for, Level, LevelState, context_of, first_of, level_parent, StoreState, level_state, levels_of, IsThere, LevelLies, Acted, all_deepest, levels_are, HasOwner, context_live, owner_live, parent_number, keeps_in, live_in, MayLeave, going, level_left}
use Rattle.session_ends.proofs.Lemmas.{agrees_current, apart_current, going_some, gone_apart, hooks_current, hooks_freed, idle_freed, keeps_left, left_placed, levels_freed, moves_back, owners_freed, popped_is, there_freed, acted_went, left_went}
use Rattle.session_ends.proofs.ends.leave_level.Goals as goal

pub context_above-above-requires-clause-there : goal.context_above-above-requires-clause-there
context_above-above-requires-clause-there g c = (c.args.space.now, levels_freed c.args.store.now c.args.space.now c.args.shelf.now c.requires.free)

pub discard_owner-requires-clause-live : goal.discard_owner-requires-clause-live
discard_owner-requires-clause-live g c =
    let a : StoreState = record { tree = c.store.inside.tree; owners = c.store.inside.owners; levels = c.store.inside.levels; portals = c.store.inside.portals } in
    let freed : MayLeave a c.args.space.now c.args.shelf.now = subst (λ (v : StoreState). MayLeave v c.args.space.now c.args.shelf.now) (sym c.store.view_is) c.requires.free in
    let outer : List Level = c.deepest-level.ensures.0 in
    let lies = all_deepest (LevelLies a.tree a.owners) a.levels outer c.deepest-level.result c.deepest-level.ensures.1 c.store.invariant.levels in
    let has = all_deepest (HasOwner a.owners) a.levels outer c.deepest-level.result c.deepest-level.ensures.1 (owners_freed a c.args.space.now c.args.shelf.now freed) in
    owner_live a.tree a.owners c.deepest-level.result lies.1 has.1

pub discard_owner-requires-clause-empty : goal.discard_owner-requires-clause-empty
discard_owner-requires-clause-empty g c =
    let a : StoreState = record { tree = c.store.inside.tree; owners = c.store.inside.owners; levels = c.store.inside.levels; portals = c.store.inside.portals } in
    let freed : MayLeave a c.args.space.now c.args.shelf.now = subst (λ (v : StoreState). MayLeave v c.args.space.now c.args.shelf.now) (sym c.store.view_is) c.requires.free in
    idle_freed a c.args.space.now c.args.shelf.now freed c.deepest-level.ensures.0 c.deepest-level.result c.deepest-level.ensures.1

pub leaving-context-requires : goal.leaving-context-requires
leaving-context-requires g c =
    let a : StoreState = record { tree = c.store.inside.tree; owners = c.store.inside.owners; levels = c.store.inside.levels; portals = c.store.inside.portals } in
    let freed : MayLeave a c.args.space.now c.args.shelf.now = subst (λ (v : StoreState). MayLeave v c.args.space.now c.args.shelf.now) (sym c.store.view_is) c.requires.free in
    let lies = all_deepest (LevelLies a.tree a.owners) a.levels c.deepest-level.ensures.0 c.deepest-level.result c.deepest-level.ensures.1 c.store.invariant.levels in
    let is = all_deepest (IsThere a.tree) a.levels c.deepest-level.ensures.0 c.deepest-level.result c.deepest-level.ensures.1 (there_freed a c.args.space.now c.args.shelf.now freed) in
    subst (λ (t : TreeState). IfSome c.deepest-level.result.context (IsLive t)) (sym c.switch.ensures) (context_live a.tree a.owners c.deepest-level.result lies.1 is.1)

pub drop_context-requires : goal.drop_context-requires
drop_context-requires g c = record {
  agrees =
      let a : StoreState = record { tree = c.store.inside.tree; owners = c.store.inside.owners; levels = c.store.inside.levels; portals = c.store.inside.portals } in
      subst (λ (t : TreeState). Agrees t c.args.space.now) (sym c.switch.ensures) (agrees_current a c.context_above-above.result c.args.space.now (keeps_in _ _ _ _ _ c.store.view_is c.args.space.now c.requires.keeps));
  hooks =
      let a : StoreState = record { tree = c.store.inside.tree; owners = c.store.inside.owners; levels = c.store.inside.levels; portals = c.store.inside.portals } in
      let freed : MayLeave a c.args.space.now c.args.shelf.now = subst (λ (v : StoreState). MayLeave v c.args.space.now c.args.shelf.now) (sym c.store.view_is) c.requires.free in
      subst (λ (t : TreeState). HooksFit (stands_for t c.args.space.now) c.args.shelf.now) (sym c.switch.ensures)
      (hooks_current a.tree c.context_above-above.result c.args.space.now c.args.shelf.now (hooks_freed a c.args.space.now c.args.shelf.now freed));
  live =
      let a : StoreState = record { tree = c.store.inside.tree; owners = c.store.inside.owners; levels = c.store.inside.levels; portals = c.store.inside.portals } in
      let freed : MayLeave a c.args.space.now c.args.shelf.now = subst (λ (v : StoreState). MayLeave v c.args.space.now c.args.shelf.now) (sym c.store.view_is) c.requires.free in
      let lies = all_deepest (LevelLies a.tree a.owners) a.levels c.deepest-level.ensures.0 c.deepest-level.result c.deepest-level.ensures.1 c.store.invariant.levels in
      let is = all_deepest (IsThere a.tree) a.levels c.deepest-level.ensures.0 c.deepest-level.result c.deepest-level.ensures.1 (there_freed a c.args.space.now c.args.shelf.now freed) in
      subst (λ (kept : Option CtxId). IfSome kept (IsLive c.switch.new.self)) (sym (c.leaving-context.ensures c.args.space.now))
      (going_some (IsLive c.switch.new.self) c.args.merged c.deepest-level.result.context (stands_for c.switch.new.self c.args.space.now)
      (subst (λ (t : TreeState). IfSome c.deepest-level.result.context (IsLive t)) (sym c.switch.ensures) (context_live a.tree a.owners c.deepest-level.result lies.1 is.1)));
  apart =
      let a : StoreState = record { tree = c.store.inside.tree; owners = c.store.inside.owners; levels = c.store.inside.levels; portals = c.store.inside.portals } in
      let freed : MayLeave a c.args.space.now c.args.shelf.now = subst (λ (v : StoreState). MayLeave v c.args.space.now c.args.shelf.now) (sym c.store.view_is) c.requires.free in
      let outer : List Level = c.deepest-level.ensures.0 in
      let is : levels_of a.levels ≡ level_state c.deepest-level.result ∷ levels_of outer = ap levels_of c.deepest-level.ensures.1 ∙ levels_are outer c.deepest-level.result in
      let above : c.context_above-above.result.number ≡ unwrap_or (context_of (first_of (levels_of outer))) 1 =
      c.context_above-above.ensures.number ∙ ap (λ (v : StoreState). level_parent (first_of (drop 1 (levels_of v.levels)))) (sym c.store.view_is)
      ∙ ap (λ (ls : List LevelState). level_parent (first_of (drop 1 ls))) is ∙ sym (parent_number (first_of (levels_of outer))) in
      let tree : TreeState = c.switch.new.self in
      subst (λ (kept : Option CtxId). IfSome kept (λ id. is_within id.number tree.current.number (stands_for tree c.args.space.now) ≡ false)) (sym (c.leaving-context.ensures c.args.space.now))
      (going_some (λ id. is_within id.number tree.current.number (stands_for tree c.args.space.now) ≡ false) c.args.merged c.deepest-level.result.context (stands_for tree c.args.space.now)
      (subst (λ (t : TreeState). IfSome c.deepest-level.result.context (λ id. is_within id.number t.current.number (stands_for t c.args.space.now) ≡ false)) (sym c.switch.ensures)
      (apart_current a.tree c.context_above-above.result c.args.space.now c.deepest-level.result.context
      (gone_apart a c.args.space.now c.args.shelf.now freed outer c.deepest-level.result c.deepest-level.ensures.1 c.context_above-above.result.number above))));
}

pub invariant_of-store : goal.invariant_of-store
invariant_of-store g c =
    let a : StoreState = record { tree = c.store.inside.tree; owners = c.store.inside.owners; levels = c.store.inside.levels; portals = c.store.inside.portals } in
    let outer : List Level = c.deepest-level.ensures.0 in
    let up : CtxId = c.context_above-above.result in
    left_placed a.tree c.drop_context.new.tree a.owners c.discard_owner.new.resources
    (λ n still. ap (λ (t : TreeState). has n t.kept) (sym c.switch.ensures) ∙ c.drop_context.ensures.had n still)
    (λ n still. c.drop_context.ensures.stays n still ∙ ap (λ (t : TreeState). place_of t n) c.switch.ensures) c.discard_owner.ensures.had c.discard_owner.ensures.stays
    a.levels outer c.pop.new.self a.portals c.deepest-level.result up c.deepest-level.ensures.1
    (popped_is a.levels outer c.pop.new.self c.deepest-level.result c.pop.result c.deepest-level.ensures.1 c.pop.ensures.popped c.pop.ensures.some)
    c.store.invariant (live_in _ _ _ _ _ c.store.view_is up c.context_above-above.ensures.live)
    (c.drop_context.ensures.current ∙ ap (λ (t : TreeState). t.current) c.switch.ensures) c.discard_owner.ensures.plans

pub returns : goal.returns
returns g c = record {
  acted = λ commons. let a : StoreState = record { tree = c.store.inside.tree; owners = c.store.inside.owners; levels = c.store.inside.levels; portals = c.store.inside.portals } in
      let outer : List Level = c.deepest-level.ensures.0 in
      let level : Level = c.deepest-level.result in
      let up : CtxId = c.context_above-above.result in
      let ls : List LevelState = level_state level ∷ levels_of outer in
      let s : Space = c.args.space.now in
      let t : Space = c.drop_context.new.space in
      let kept : Option CtxId = c.leaving-context.result in
      let is : levels_of a.levels ≡ ls = ap levels_of c.deepest-level.ensures.1 ∙ levels_are outer level in
      let new : c.pop.new.self ≡ outer = popped_is a.levels outer c.pop.new.self level c.pop.result c.deepest-level.ensures.1 c.pop.ensures.popped c.pop.ensures.some in
      let above : up.number ≡ unwrap_or (context_of (first_of (levels_of outer))) 1 =
      c.context_above-above.ensures.number ∙ ap (λ (v : StoreState). level_parent (first_of (drop 1 (levels_of v.levels)))) (sym c.store.view_is)
      ∙ ap (λ (ls : List LevelState). level_parent (first_of (drop 1 ls))) is ∙ sym (parent_number (first_of (levels_of outer))) in
      let b : StoreState = record { tree = c.drop_context.new.tree; owners = c.discard_owner.new.resources; levels = c.pop.new.self; portals = a.portals } in
      subst (λ (v : StoreState). Acted (level_left c.args.merged) v b s t c.args.shelf.now c.drop_context.new.shelf commons commons (λ events. g.E.Emit.emits c.args.out.now events c.drop_context.new.out)) c.store.view_is
      (acted_went _ (λ o events p. g.E.Emit.emits o events p) (level_left c.args.merged) a b a.levels ls (levels_of outer) s t c.args.shelf.now c.drop_context.new.shelf commons commons c.args.out.now c.drop_context.new.out is (ap levels_of new)
      (λ around. left_went _ (λ o events p. g.E.Emit.emits o events p) g.met.E.Emit.emits_none (λ o p q xs ys h k. g.met.E.Emit.emits_more _ _ _ _ _ _ h k refl)
      c.args.merged a (levels_of outer) level s t c.args.shelf.now c.drop_context.new.shelf commons around up kept c.drop_context.new.tree c.discard_owner.new.resources
      c.args.out.now c.discard_owner.new.out c.drop_context.new.out
      (c.discard_owner.ensures.acted commons) above
      (subst (λ (u : TreeState). kept ≡ going c.args.merged level.context (stands_for u s)) c.switch.ensures (c.leaving-context.ensures s))
      (subst (λ (u : TreeState). MatchOption kept (DidNothing u c.drop_context.new.tree s t c.args.shelf.now c.drop_context.new.shelf) (λ id. Did (gone id.number (stands_for u s)) u c.drop_context.new.tree s t c.args.shelf.now c.drop_context.new.shelf)) c.switch.ensures c.drop_context.ensures.did)
      (subst (λ (u : TreeState). MatchOption kept (c.drop_context.new.out ≡ c.discard_owner.new.out) (λ id. g.E.Emit.emits c.discard_owner.new.out (gone id.number (stands_for u s)).events c.drop_context.new.out)) c.switch.ensures c.drop_context.ensures.emits)) (c.discard_owner.ensures.balances commons));
  keeps =
      let a : StoreState = record { tree = c.store.inside.tree; owners = c.store.inside.owners; levels = c.store.inside.levels; portals = c.store.inside.portals } in
      keeps_left a c.context_above-above.result c.drop_context.new.tree c.discard_owner.new.resources c.pop.new.self a.portals c.args.space.now c.drop_context.new.space (keeps_in _ _ _ _ _ c.store.view_is c.args.space.now c.requires.keeps)
      (subst (λ (t : TreeState). Moves t c.drop_context.new.tree c.args.space.now c.drop_context.new.space) c.switch.ensures c.drop_context.ensures.moves);
  moves = subst (λ (v : StoreState). Moves v.tree c.drop_context.new.tree c.args.space.now c.drop_context.new.space) c.store.view_is
      (moves_back c.store.inside.tree c.drop_context.new.tree c.context_above-above.result c.args.space.now c.drop_context.new.space
      (subst (λ (t : TreeState). Moves t c.drop_context.new.tree c.args.space.now c.drop_context.new.space) c.switch.ensures c.drop_context.ensures.moves));
  asked = subst (λ (v : StoreState). Asks v.tree.account 0 c.args.space.now c.drop_context.new.space) c.store.view_is
      (subst (λ (t : TreeState). Asks t.account 0 c.args.space.now c.drop_context.new.space) c.switch.ensures c.drop_context.ensures.asked);
  levels =
      let a : StoreState = record { tree = c.store.inside.tree; owners = c.store.inside.owners; levels = c.store.inside.levels; portals = c.store.inside.portals } in
      let outer : List Level = c.deepest-level.ensures.0 in
      let level : Level = c.deepest-level.result in
      let new : c.pop.new.self ≡ outer = popped_is a.levels outer c.pop.new.self level c.pop.result c.deepest-level.ensures.1 c.pop.ensures.popped c.pop.ensures.some in
      (level, ap (λ (v : StoreState). v.levels) (sym c.store.view_is) ∙ c.deepest-level.ensures.1 ∙ ap (λ (ls : List Level). ls ++ level ∷ []) (sym new));
}
