-- The context goes, or nothing is done.
use Rattle.session_ends.proofs.Base.{subst, option_map}
use Rattle.session_ends.proofs.Words.{CtxId, gone, context_gone, where_there, StoreState, Acted, keeps_in, GoesOut}
use Rattle.session_ends.proofs.Lemmas.{out_tree, placed_out, is_apart, is_hooked, is_live, memory_acted}
use Rattle.session_ends.proofs.portal_parts.drop_memory.Goals as goal

pub drop_context-requires : goal.drop_context-requires
drop_context-requires g c = record {
  agrees =
      let k = keeps_in _ _ _ _ _ c.store.view_is _ c.requires.keeps in
      k.agrees;
  hooks = is_hooked _ _ _ _ _ c.store.view_is c.args.space.now c.args.shelf.now c.requires.hooks;
  live = is_live _ _ _ _ _ c.store.view_is c.args.context c.requires.live;
  apart = is_apart _ _ _ _ _ c.store.view_is c.args.space.now c.args.context c.requires.apart;
}

pub invariant_of-store : goal.invariant_of-store
invariant_of-store g c =
    let a : StoreState = record { tree = c.store.inside.tree; owners = c.store.inside.owners; levels = c.store.inside.levels; portals = c.store.inside.portals } in
    let b : StoreState = record { tree = c.drop_context.new.tree; owners = a.owners; levels = a.levels; portals = a.portals } in
    let r = c.drop_context.ensures in
    placed_out a b c.args.space.now c.drop_context.new.space
    (out_tree a b.tree c.args.space.now c.drop_context.new.space (keeps_in _ _ _ _ _ c.store.view_is _ c.requires.keeps) (record { moves = r.moves; asked = r.asked; had = r.had; stays = r.stays; current = r.current; next = r.next }))
    a.portals (λ id here. here) c.store.invariant

pub returns-clause-acted : goal.returns-clause-acted
returns-clause-acted g c commons =
    let a : StoreState = record { tree = c.store.inside.tree; owners = c.store.inside.owners; levels = c.store.inside.levels; portals = c.store.inside.portals } in
    let b : StoreState = record { tree = c.drop_context.new.tree; owners = a.owners; levels = a.levels; portals = a.portals } in
    subst (λ (v : StoreState). Acted (λ scene. where_there (option_map (λ (id : CtxId). id.number) c.args.context) context_gone scene) v b c.args.space.now c.drop_context.new.space c.args.shelf.now c.drop_context.new.shelf commons commons (λ events. g.E.Emit.emits c.args.out.now events c.drop_context.new.out)) c.store.view_is
    (memory_acted _ (λ o events p. g.E.Emit.emits o events p) g.met.E.Emit.emits_none gone a b.tree c.args.space.now c.drop_context.new.space c.args.shelf.now c.drop_context.new.shelf commons c.args.out.now c.drop_context.new.out c.args.context c.drop_context.ensures.did c.drop_context.ensures.emits)

pub returns-clause-out : goal.returns-clause-out
returns-clause-out g c =
    let a : StoreState = record { tree = c.store.inside.tree; owners = c.store.inside.owners; levels = c.store.inside.levels; portals = c.store.inside.portals } in
    let b : StoreState = record { tree = c.drop_context.new.tree; owners = a.owners; levels = a.levels; portals = a.portals } in
    let r = c.drop_context.ensures in
    subst (λ (v : StoreState). GoesOut v b c.args.space.now c.drop_context.new.space) c.store.view_is
    (out_tree a b.tree c.args.space.now c.drop_context.new.space (keeps_in _ _ _ _ _ c.store.view_is _ c.requires.keeps) (record { moves = r.moves; asked = r.asked; had = r.had; stays = r.stays; current = r.current; next = r.next }))
