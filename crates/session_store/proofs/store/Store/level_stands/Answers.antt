-- The level's context is there, and lies where its id says.
use Rattle.session_store.proofs.Words.{◌≡◌, false, List, sym, ap, ◌∙◌, subst, unwrap_or, CtxId, TreeState, Level, level_stands, StoreState, IsPlaced, IsThere, LevelLies, Acted, IsSilent, Keeps}
use Rattle.session_store.proofs.Lemmas.{all_deepest, deepest_new, context_live, current_lies, deepest_placed, have_owners, keeps_current, lies_at, portals_at, stood_acted, stands_in, there_in}
use Rattle.session_store.proofs.store.Store.level_stands.Goals as goal

pub switch_to-requires : goal.switch_to-requires
switch_to-requires g c =
    let there = there_in _ _ _ _ _ c.self.view_is _ _ c.requires.stands.1.1.0 c.requires.stands.1.1.1 in
    let lies = all_deepest (LevelLies c.self.inside.tree c.self.inside.owners) c.self.inside.levels c.deepest.ensures.0 c.deepest.result c.deepest.ensures.1 c.self.invariant.levels in
    let is = all_deepest (IsThere c.self.inside.tree) c.self.inside.levels c.deepest.ensures.0 c.deepest.result c.deepest.ensures.1 there.levels in
    context_live c.self.inside.tree c.self.inside.owners c.deepest.result lies.1 is.1

pub invariant_of-self : goal.invariant_of-self
invariant_of-self g c =
    let tree = c.self.inside.tree in
    let to = unwrap_or c.deepest.result.context tree.current in
    let there = there_in _ _ _ _ _ c.self.view_is _ _ c.requires.stands.1.1.0 c.requires.stands.1.1.1 in
    let owned = have_owners (record { tree = tree; owners = c.self.inside.owners; levels = c.self.inside.levels; portals = c.self.inside.portals }) _ _ c.requires.stands.1.1.0 (stands_in _ _ _ _ _ c.self.view_is _ _ c.requires.stands.1.1.0 c.requires.stands.1.1.1) in
    let lies = all_deepest (LevelLies tree c.self.inside.owners) c.self.inside.levels c.deepest.ensures.0 c.deepest.result c.deepest.ensures.1 c.self.invariant.levels in
    let is = all_deepest (IsThere tree) c.self.inside.levels c.deepest.ensures.0 c.deepest.result c.deepest.ensures.1 there.levels in
    subst (λ (t : TreeState). IsPlaced t c.self.inside.owners c.started.new.self c.self.inside.portals) (sym c.switch_to.ensures)
    (subst (λ (ls : List Level). IsPlaced (record tree { current = to }) c.self.inside.owners ls c.self.inside.portals)
    (sym (deepest_new (λ level. record level { starting = false }) c.self.inside.levels c.deepest.ensures.0 c.deepest.result c.started.new.self c.started.ensures c.deepest.ensures.1))
    (deepest_placed tree (record tree { current = to }) c.self.inside.owners c.self.inside.owners c.self.inside.levels c.deepest.ensures.0 c.self.inside.portals c.deepest.result (record c.deepest.result { starting = false }) c.self.invariant c.deepest.ensures.1
    (λ l lies has. lies_at tree c.self.inside.owners to l lies) owned
    (λ lies. record { context = lies.context; owner = lies.owner })
    (current_lies tree c.deepest.result.context (context_live tree c.self.inside.owners c.deepest.result lies.1 is.1) c.self.invariant.current) c.self.invariant.plans (portals_at tree c.self.inside.owners to c.self.inside.portals c.self.invariant.portals)))

pub returns-clause-acted : goal.returns-clause-acted
returns-clause-acted g c s x commons =
    let a : StoreState = record { tree = c.self.inside.tree; owners = c.self.inside.owners; levels = c.self.inside.levels; portals = c.self.inside.portals } in
    let outer : List Level = c.deepest.ensures.0 in
    subst (λ (v : StoreState). Acted level_stands v (record { tree = c.switch_to.new.tree; owners = c.self.inside.owners; levels = c.started.new.self; portals = a.portals }) s s x x commons commons IsSilent) c.self.view_is
    (subst (λ (t : TreeState). Acted level_stands a (record { tree = t; owners = c.self.inside.owners; levels = c.started.new.self; portals = a.portals }) s s x x commons commons IsSilent) (sym c.switch_to.ensures)
    (subst (λ (ls : List Level). Acted level_stands a (record { tree = record a.tree { current = unwrap_or c.deepest.result.context a.tree.current }; owners = c.self.inside.owners; levels = ls; portals = a.portals }) s s x x commons commons IsSilent)
    (sym (deepest_new (λ level. record level { starting = false }) c.self.inside.levels outer c.deepest.result c.started.new.self c.started.ensures c.deepest.ensures.1))
    (stood_acted a outer s x commons c.deepest.result c.deepest.ensures.1)))

pub returns-clause-keeps : goal.returns-clause-keeps
returns-clause-keeps g c s keeps =
    let a : StoreState = record { tree = c.self.inside.tree; owners = c.self.inside.owners; levels = c.self.inside.levels; portals = c.self.inside.portals } in
    subst (λ (t : TreeState). Keeps (record { tree = t; owners = c.self.inside.owners; levels = c.started.new.self; portals = a.portals }) s) (sym c.switch_to.ensures)
    (keeps_current a (unwrap_or c.deepest.result.context a.tree.current) c.self.inside.owners c.started.new.self s (subst (λ (v : StoreState). Keeps v s) (sym c.self.view_is) keeps))

pub returns-clause-tree : goal.returns-clause-tree
returns-clause-tree g c =
    let a : StoreState = record { tree = c.self.inside.tree; owners = c.self.inside.owners; levels = c.self.inside.levels; portals = c.self.inside.portals } in
    subst (λ (v : StoreState). c.switch_to.new.tree ≡ record v.tree { current = c.switch_to.new.tree.current }) c.self.view_is
    (c.switch_to.ensures ∙ ap (λ (id : CtxId). record a.tree { current = id }) (sym (ap (λ (t : TreeState). t.current) c.switch_to.ensures)))
