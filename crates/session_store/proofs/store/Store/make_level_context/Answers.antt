-- The new context is below that of the level above, and the level knows it.
use Rattle.session_store.proofs.Words.{rules, ◌≡◌, ◌⊎◌, ◌<◌, ◌^◌, true, ℕ, List, Some, None, length, refl, sym, ap, ◌∙◌, subst, codes, drop, option_map, Contexts, create_refusal, Memory, AsksInVain, Level, LevelState, first_of, LevelContext, level_context_name, level_parent, new_context_made, StoreState, level_state, levels_of, IsPlaced, Acted, Refused}
use Rattle.session_store.proofs.Lemmas.{deepest_new, ends, levels_are, goes_made, above_in, context_acted, deepest_placed, have_owners, keeps_parts, agrees_in, keeps_in, left_through, levels_in, live_in, placed_after, stands_in, refused_regions}
use Rattle.any_ctx.specs.declared.any.CtxKind.TheVariants as kind
use Rattle.session_store.proofs.Sums.{keeps_on}
use Rattle.session_store.proofs.store.Store.make_level_context.Goals as goal

pub create-requires : goal.create-requires
create-requires g c = record {
  agrees = agrees_in _ _ _ _ _ c.self.view_is c.args.space.now c.requires.keeps;
  live = live_in _ _ _ _ _ c.self.view_is c.context_above-parent.result c.context_above-parent.ensures.live;
  room = subst (λ (a : StoreState). a.tree.next < 2 ^ 62) (sym c.self.view_is) c.requires.room;
  slab = search rules;
}

pub context_above-parent-requires-clause-there : goal.context_above-parent-requires-clause-there
context_above-parent-requires-clause-there g c = (c.args.space.now, levels_in _ _ _ _ _ c.self.view_is _ _ c.requires.stands.1.0 c.requires.stands.1.1)

pub invariant_of-self : goal.invariant_of-self
invariant_of-self g c =
    let a : StoreState = record { tree = c.self.inside.tree; owners = c.self.inside.owners; levels = c.self.inside.levels; portals = c.self.inside.portals } in
    let e = ends a.levels (subst (λ (v : StoreState). 0 < length v.levels) (sym c.self.view_is) c.requires.level) in
    let placed = placed_after _ _ _ _ _ c.self.view_is c.create.new.self c.args.space.now c.create.new.space c.requires.stands.0 c.requires.stands.1.0 c.requires.stands.1.1 c.self.invariant
    (goes_made _ _ _ _ c.create.ensures.moves c.create.ensures.stays c.create.ensures.fresh c.create.ensures.current) in
    subst (λ (ls : List Level). IsPlaced c.create.new.self a.owners ls a.portals) (sym (deepest_new (λ level. record level { context = Some c.in-Ok.context }) a.levels e.0 e.1.0 c.set_context.new.self c.set_context.ensures e.1.1))
    (deepest_placed c.create.new.self c.create.new.self a.owners a.owners a.levels e.0 a.portals e.1.0 (record e.1.0 { context = Some c.in-Ok.context }) placed e.1.1
    (λ l lies has. lies) (have_owners a _ _ c.requires.stands.1.0 (stands_in _ _ _ _ _ c.self.view_is _ _ c.requires.stands.1.0 c.requires.stands.1.1))
    (λ lies. record { context = λ there. c.in-Ok.ensures.live; owner = lies.owner })
    placed.current placed.plans placed.portals)

pub returns-in-Ok-clause-acted : goal.returns-in-Ok-clause-acted
returns-in-Ok-clause-acted g c x commons =
    let a : StoreState = record { tree = c.self.inside.tree; owners = c.self.inside.owners; levels = c.self.inside.levels; portals = c.self.inside.portals } in
    let e = ends a.levels (subst (λ (v : StoreState). 0 < length v.levels) (sym c.self.view_is) c.requires.level) in
    let outer : List Level = e.0 in
    let above : option_map level_state c.above.result ≡ first_of (levels_of outer) = above_in a outer e.1.0 c.above.result e.1.1 c.above.ensures in
    let up : c.context_above-parent.result.number ≡ level_parent (first_of (levels_of outer)) =
    c.context_above-parent.ensures.number
    ∙ ap (λ (v : StoreState). level_parent (first_of (drop 1 (levels_of v.levels)))) (sym c.self.view_is)
    ∙ ap (λ (ls : List LevelState). level_parent (first_of (drop 1 ls))) (ap levels_of e.1.1 ∙ levels_are outer e.1.0) in
    subst (λ (v : StoreState). Acted (new_context_made LevelContext) v (record { tree = c.create.new.self; owners = a.owners; levels = c.set_context.new.self; portals = a.portals }) c.args.space.now c.create.new.space x x commons commons (λ events. g.E.Emit.emits c.args.out.now events c.create.new.out)) c.self.view_is
    (subst (λ (ls : List Level). Acted (new_context_made LevelContext) a (record { tree = c.create.new.self; owners = a.owners; levels = ls; portals = a.portals }) c.args.space.now c.create.new.space x x commons commons (λ events. g.E.Emit.emits c.args.out.now events c.create.new.out))
    (sym (deepest_new (λ level. record level { context = Some c.in-Ok.context }) a.levels e.0 e.1.0 c.set_context.new.self c.set_context.ensures e.1.1))
    (context_acted a outer e.1.0 c.create.new.self c.args.space.now c.create.new.space x commons c.in-Ok.context c.context_above-parent.result.number c.context_name-name.result (λ events. g.E.Emit.emits c.args.out.now events c.create.new.out) e.1.1
    up (c.context_name-name.ensures ∙ ap level_context_name above) c.in-Ok.ensures.number c.in-Ok.ensures.contexts c.create.ensures.current c.in-Ok.ensures.next c.create.ensures.moves.limit c.in-Ok.ensures.emits))

pub returns-in-Ok-clause-keeps : goal.returns-in-Ok-clause-keeps
returns-in-Ok-clause-keeps g c =
    let a : StoreState = record { tree = c.self.inside.tree; owners = c.self.inside.owners; levels = c.self.inside.levels; portals = c.self.inside.portals } in
    keeps_parts (record a { tree = c.create.new.self }) a.owners c.set_context.new.self c.create.new.space
    (keeps_on a c.create.new.self c.args.space.now c.create.new.space (keeps_in _ _ _ _ _ c.self.view_is c.args.space.now c.requires.keeps) c.create.ensures.moves)

pub returns-in-Err-clause-keeps : goal.returns-in-Err-clause-keeps
returns-in-Err-clause-keeps g c =
    let a : StoreState = record { tree = c.self.inside.tree; owners = c.self.inside.owners; levels = c.self.inside.levels; portals = c.self.inside.portals } in
    keeps_on a c.create.new.self c.args.space.now c.create.new.space (keeps_in _ _ _ _ _ c.self.view_is c.args.space.now c.requires.keeps) c.create.ensures.moves

pub returns-in-Err-clause-cause : goal.returns-in-Err-clause-cause
returns-in-Err-clause-cause g c =
    left_through _ _ _ _ _ c.self.view_is (λ (account n left : ℕ) (contexts : Contexts). (c.in-Err.error ≡ Memory) ⊎ (create_refusal left (codes "CurTransactionContext") kind.Default true contexts ≡ Some c.in-Err.error)) c.args.space.now _ refl c.requires.keeps
    c.in-Err.ensures.refused

pub returns-in-Err-clause-refused : goal.returns-in-Err-clause-refused
returns-in-Err-clause-refused g c x commons =
    let a : StoreState = record { tree = c.self.inside.tree; owners = c.self.inside.owners; levels = c.self.inside.levels; portals = c.self.inside.portals } in
    subst (λ (v : StoreState). Refused v (record { tree = c.create.new.self; owners = a.owners; levels = a.levels; portals = a.portals }) c.args.space.now c.create.new.space x x commons commons) c.self.view_is
    (refused_regions a c.create.new.self c.args.space.now c.create.new.space x commons c.in-Err.ensures.err c.in-Err.ensures.err_space)

pub returns-in-Err-clause-err_asked : goal.returns-in-Err-clause-err_asked
returns-in-Err-clause-err_asked g c =
    subst (λ (v : StoreState). AsksInVain c.in-Err.error v.tree.account 8192 c.args.space.now c.create.new.space) c.self.view_is c.in-Err.ensures.err_asked

pub returns-in-Ok-clause-served : goal.returns-in-Ok-clause-served
returns-in-Ok-clause-served g c =
    left_through _ _ _ _ _ c.self.view_is (λ (account n left : ℕ) (contexts : Contexts). create_refusal left (codes "CurTransactionContext") kind.Default true contexts ≡ None) c.args.space.now _ refl c.requires.keeps
    c.in-Ok.ensures.served
