use Rattle.session_ends.proofs.Base.{List, IfSome, sym, ap, ◌∙◌, subst}
use Rattle.session_ends.proofs.Words.{Level, LevelState, first_of, owner_of, StoreState, levels_of, LevelLies, all_deepest, levels_are, owner_live, stands_in}
use Rattle.session_owners.specs.ResourceState as owners
use Rattle.session_store.proofs.Owned.{HasOwner, have_owners}
use Rattle.session_ends.proofs.ends.own_owner.Goals as goal

pub returns-clause-number : goal.returns-clause-number
returns-clause-number g c =
    let level : Level = c.deepest.result in
    sym (ap (λ (ls : List LevelState). owner_of (first_of ls)) (ap levels_of (ap (λ (v : StoreState). v.levels) (sym c.store.view_is) ∙ c.deepest.ensures.1) ∙ levels_are c.deepest.ensures.0 level))

pub returns-clause-live : goal.returns-clause-live
returns-clause-live g c =
    let a : StoreState = record { tree = c.store.inside.tree; owners = c.store.inside.owners; levels = c.store.inside.levels; portals = c.store.inside.portals } in
    let n = c.requires.stands in
    let lies = all_deepest (LevelLies a.tree a.owners) a.levels c.deepest.ensures.0 c.deepest.result c.deepest.ensures.1 c.store.invariant.levels in
    let has = all_deepest (HasOwner a.owners) a.levels c.deepest.ensures.0 c.deepest.result c.deepest.ensures.1 (have_owners a n.0 n.1.0 n.1.1.0 (stands_in _ _ _ _ _ c.store.view_is n.0 n.1.0 n.1.1.0 n.1.1.1)) in
    subst (λ (v : StoreState). IfSome c.deepest.result.owner (owners.IsLive v.owners)) c.store.view_is (owner_live a.tree a.owners c.deepest.result lies.1 has.1)
