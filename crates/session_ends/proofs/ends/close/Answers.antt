-- The session ends as the rules say, and nothing is left.
use Rattle.session_ends.proofs.Base.{◌≡◌, [], ◌∷◌, sym, subst}
use Rattle.session_ends.proofs.Words.{held, gone, Did, TreeState, Agrees, HooksFit, IsLive, Moves, stands_for, context_gone, in_order, switched, top_context, StoreState, Acted, top_there, hooks_in, keeps_in, stands_in}
use Rattle.session_ends.proofs.Lemmas.{closed, holds_nothing, placed_nowhere, top_apart, agrees_current, hooks_current, keeps_left, moves_back}
use Rattle.session_ends.proofs.ends.close.Goals as goal

pub switch-requires : goal.switch-requires
switch-requires g c =
    let a : StoreState = record { tree = c.store.inside.tree; owners = c.store.inside.owners; levels = c.store.inside.levels; portals = c.store.inside.portals } in
    c.top-top.ensures.stands c.args.space.now (top_there a c.args.space.now c.args.shelf.now c.requires.stands.0 (stands_in _ _ _ _ _ c.store.view_is _ _ c.requires.stands.0 c.requires.stands.1))

pub gone-requires : goal.gone-requires
gone-requires g c =
    let a : StoreState = record { tree = c.store.inside.tree; owners = c.store.inside.owners; levels = c.store.inside.levels; portals = c.store.inside.portals } in
    record {
      agrees = subst (λ (t : TreeState). Agrees t c.args.space.now) (sym c.switch.ensures) (agrees_current a c.top-top.result c.args.space.now (keeps_in _ _ _ _ _ c.store.view_is c.args.space.now c.requires.keeps));
      live = subst (λ (t : TreeState). IsLive t c.top-top.result) (sym c.switch.ensures)
          (c.top-top.ensures.stands c.args.space.now (top_there a c.args.space.now c.args.shelf.now c.requires.stands.0 (stands_in _ _ _ _ _ c.store.view_is _ _ c.requires.stands.0 c.requires.stands.1)));
      hooks = subst (λ (t : TreeState). HooksFit (stands_for t c.args.space.now) c.args.shelf.now) (sym c.switch.ensures)
          (hooks_current c.store.inside.tree c.top-top.result c.args.space.now c.args.shelf.now (hooks_in _ _ _ _ _ c.store.view_is c.args.space.now c.args.shelf.now c.requires.stands.0 c.requires.stands.1));
      apart = top_apart a c.args.space.now c.args.shelf.now c.requires.stands.0 c.top-top.result c.top-top.ensures.number (stands_in _ _ _ _ _ c.store.view_is _ _ c.requires.stands.0 c.requires.stands.1) c.switch.new.self c.switch.ensures;
    }

pub invariant_of-store : goal.invariant_of-store
invariant_of-store g c =
    let a : StoreState = record { tree = c.store.inside.tree; owners = c.store.inside.owners; levels = c.store.inside.levels; portals = c.store.inside.portals } in
    let did : Did (gone c.top-top.result.number (stands_for (record a.tree { current = c.top-top.result }) c.args.space.now)) (record a.tree { current = c.top-top.result }) c.gone.new.self c.args.space.now c.gone.new.space c.args.shelf.now c.gone.new.shelf =
    subst (λ (u : TreeState). Did (gone c.top-top.result.number (stands_for u c.args.space.now)) u c.gone.new.self c.args.space.now c.gone.new.space c.args.shelf.now c.gone.new.shelf) c.switch.ensures c.gone.ensures.did in
    placed_nowhere a c.args.space.now c.args.shelf.now c.requires.stands.0 c.top-top.result c.top-top.ensures.number (stands_in _ _ _ _ _ c.store.view_is _ _ c.requires.stands.0 c.requires.stands.1) c.gone.new.self c.gone.new.space c.gone.new.shelf did
    (subst (λ (v : StoreState). v.levels ≡ []) (sym c.store.view_is) c.requires.level) c.store.invariant

pub returns-clause-acted : goal.returns-clause-acted
returns-clause-acted g c commons =
    let a : StoreState = record { tree = c.store.inside.tree; owners = c.store.inside.owners; levels = c.store.inside.levels; portals = c.store.inside.portals } in
    let did : Did (gone c.top-top.result.number (stands_for (record a.tree { current = c.top-top.result }) c.args.space.now)) (record a.tree { current = c.top-top.result }) c.gone.new.self c.args.space.now c.gone.new.space c.args.shelf.now c.gone.new.shelf =
    subst (λ (u : TreeState). Did (gone c.top-top.result.number (stands_for u c.args.space.now)) u c.gone.new.self c.args.space.now c.gone.new.space c.args.shelf.now c.gone.new.shelf) c.switch.ensures c.gone.ensures.did in
    subst (λ (v : StoreState). Acted (in_order (switched top_context ∷ context_gone top_context ∷ [])) v (record { tree = c.gone.new.self; owners = a.owners; levels = a.levels; portals = a.portals }) c.args.space.now c.gone.new.space c.args.shelf.now c.gone.new.shelf commons commons (λ events. g.E.Emit.emits c.args.out.now events c.gone.new.out)) c.store.view_is
    (closed a c.args.space.now c.args.shelf.now c.requires.stands.0 c.top-top.result c.top-top.ensures.number (stands_in _ _ _ _ _ c.store.view_is _ _ c.requires.stands.0 c.requires.stands.1) c.gone.new.self c.gone.new.space c.gone.new.shelf did commons
    (λ events. g.E.Emit.emits c.args.out.now events c.gone.new.out)
    (subst (λ (u : TreeState). g.E.Emit.emits c.args.out.now (gone c.top-top.result.number (stands_for u c.args.space.now)).events c.gone.new.out) c.switch.ensures c.gone.ensures.emits))

pub returns-clause-keeps : goal.returns-clause-keeps
returns-clause-keeps g c =
    let a : StoreState = record { tree = c.store.inside.tree; owners = c.store.inside.owners; levels = c.store.inside.levels; portals = c.store.inside.portals } in
    keeps_left a c.top-top.result c.gone.new.self a.owners a.levels a.portals c.args.space.now c.gone.new.space (keeps_in _ _ _ _ _ c.store.view_is c.args.space.now c.requires.keeps)
    (subst (λ (t : TreeState). Moves t c.gone.new.self c.args.space.now c.gone.new.space) c.switch.ensures c.gone.ensures.did.moves)

pub returns-clause-moves : goal.returns-clause-moves
returns-clause-moves g c =
    subst (λ (v : StoreState). Moves v.tree c.gone.new.self c.args.space.now c.gone.new.space) c.store.view_is
    (moves_back c.store.inside.tree c.gone.new.self c.top-top.result c.args.space.now c.gone.new.space
    (subst (λ (t : TreeState). Moves t c.gone.new.self c.args.space.now c.gone.new.space) c.switch.ensures c.gone.ensures.did.moves))

pub returns-clause-held : goal.returns-clause-held
returns-clause-held g c =
    let a : StoreState = record { tree = c.store.inside.tree; owners = c.store.inside.owners; levels = c.store.inside.levels; portals = c.store.inside.portals } in
    let did : Did (gone c.top-top.result.number (stands_for (record a.tree { current = c.top-top.result }) c.args.space.now)) (record a.tree { current = c.top-top.result }) c.gone.new.self c.args.space.now c.gone.new.space c.args.shelf.now c.gone.new.shelf =
    subst (λ (u : TreeState). Did (gone c.top-top.result.number (stands_for u c.args.space.now)) u c.gone.new.self c.args.space.now c.gone.new.space c.args.shelf.now c.gone.new.shelf) c.switch.ensures c.gone.ensures.did in
    subst (λ (v : StoreState). held c.gone.new.space v.tree.account ≡ 0) c.store.view_is
    (holds_nothing a c.args.space.now c.args.shelf.now c.requires.stands.0 c.top-top.result c.top-top.ensures.number (stands_in _ _ _ _ _ c.store.view_is _ _ c.requires.stands.0 c.requires.stands.1) c.gone.new.self c.gone.new.space c.gone.new.shelf did
    (keeps_in _ _ _ _ _ c.store.view_is c.args.space.now c.requires.keeps))
