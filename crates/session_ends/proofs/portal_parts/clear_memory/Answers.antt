-- What is below the context goes, or nothing is done.
use Rattle.session_ends.proofs.Base.{subst, option_map}
use Rattle.session_ends.proofs.Words.{CtxId, children_gone, where_there, StoreState, Acted, keeps_in, GoesOut}
use Rattle.context_rules.specs.Ends.{children_gone as below_gone}
use Rattle.session_ends.proofs.Lemmas.{out_tree, placed_out, is_above_none, is_once, is_hooked, is_live, memory_acted}
use Rattle.session_ends.proofs.portal_parts.clear_memory.Goals as goal

pub clear_below-requires : goal.clear_below-requires
clear_below-requires g c = record {
  agrees =
      let k = keeps_in _ _ _ _ _ c.store.view_is _ c.requires.keeps in
      k.agrees;
  hooks = is_hooked _ _ _ _ _ c.store.view_is c.args.space.now c.args.shelf.now c.requires.hooks;
  live = is_live _ _ _ _ _ c.store.view_is c.args.context c.requires.live;
  apart = is_above_none _ _ _ _ _ c.store.view_is c.args.space.now c.args.context c.requires.apart;
  once = is_once _ _ _ _ _ c.store.view_is c.args.space.now c.requires.once;
}

pub invariant_of-store : goal.invariant_of-store
invariant_of-store g c =
    let a : StoreState = record { tree = c.store.inside.tree; owners = c.store.inside.owners; levels = c.store.inside.levels; portals = c.store.inside.portals } in
    let b : StoreState = record { tree = c.clear_below.new.tree; owners = a.owners; levels = a.levels; portals = a.portals } in
    let r = c.clear_below.ensures in
    placed_out a b c.args.space.now c.clear_below.new.space
    (out_tree a b.tree c.args.space.now c.clear_below.new.space (keeps_in _ _ _ _ _ c.store.view_is _ c.requires.keeps) (record { moves = r.moves; asked = r.asked; had = r.had; stays = r.stays; current = r.current; next = r.next }))
    a.portals (λ id here. here) c.store.invariant

pub returns-clause-acted : goal.returns-clause-acted
returns-clause-acted g c commons =
    let a : StoreState = record { tree = c.store.inside.tree; owners = c.store.inside.owners; levels = c.store.inside.levels; portals = c.store.inside.portals } in
    let b : StoreState = record { tree = c.clear_below.new.tree; owners = a.owners; levels = a.levels; portals = a.portals } in
    subst (λ (v : StoreState). Acted (λ scene. where_there (option_map (λ (id : CtxId). id.number) c.args.context) children_gone scene) v b c.args.space.now c.clear_below.new.space c.args.shelf.now c.clear_below.new.shelf commons commons (λ events. g.E.Emit.emits c.args.out.now events c.clear_below.new.out)) c.store.view_is
    (memory_acted _ (λ o events p. g.E.Emit.emits o events p) g.met.E.Emit.emits_none below_gone a b.tree c.args.space.now c.clear_below.new.space c.args.shelf.now c.clear_below.new.shelf commons c.args.out.now c.clear_below.new.out c.args.context c.clear_below.ensures.did c.clear_below.ensures.emits)

pub returns-clause-out : goal.returns-clause-out
returns-clause-out g c =
    let a : StoreState = record { tree = c.store.inside.tree; owners = c.store.inside.owners; levels = c.store.inside.levels; portals = c.store.inside.portals } in
    let b : StoreState = record { tree = c.clear_below.new.tree; owners = a.owners; levels = a.levels; portals = a.portals } in
    let r = c.clear_below.ensures in
    subst (λ (v : StoreState). GoesOut v b c.args.space.now c.clear_below.new.space) c.store.view_is
    (out_tree a b.tree c.args.space.now c.clear_below.new.space (keeps_in _ _ _ _ _ c.store.view_is _ c.requires.keeps) (record { moves = r.moves; asked = r.asked; had = r.had; stays = r.stays; current = r.current; next = r.next }))
