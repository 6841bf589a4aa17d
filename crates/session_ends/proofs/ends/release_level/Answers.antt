-- The level's owner is released as the rules say, what lies elsewhere still does, and the level may go.
use Rattle.session_ends.proofs.Base.{◌≡◌, ℕ, Bool, List, [], Option, length, sym, ap, ◌∙◌, subst, ◌==◌}
use Rattle.session_ends.proofs.Words.{Asks, Space, ShelfState, Forest, at, Serves, LevelState, first_of, owner_of, where_there, owner_released, level_released, Level, StoreState, levels_of, scene_of, session_of, LevelLies, Acted, BothAlone, all_deepest, levels_are, owner_live, acted_as, both_alone, keeps_in, MayLeave, IsEnding, number_in}
use Rattle.session_ends.proofs.Lemmas.{acted_on, leaves, level_owner_has, level_owner_top, may_ended, go_by, goes_of, plans_can, out_owners, placed_out}
use Rattle.session_ends.proofs.ends.release_level.Goals as goal

pub release_owner-requires-clause-live : goal.release_owner-requires-clause-live
release_owner-requires-clause-live g c =
    let a : StoreState = record { tree = c.store.inside.tree; owners = c.store.inside.owners; levels = c.store.inside.levels; portals = c.store.inside.portals } in
    let outer : List Level = c.deepest-owner.ensures.0 in
    let e = subst (λ (v : StoreState). IsEnding c.requires.ending.0 v c.args.space.now c.args.shelf.now c.args.commons.now []) (sym c.store.view_is) c.requires.ending.1 in
    let lies = all_deepest (LevelLies a.tree a.owners) a.levels outer c.deepest-owner.result c.deepest-owner.ensures.1 c.store.invariant.levels in
    owner_live a.tree a.owners c.deepest-owner.result lies.1 (level_owner_has c.requires.ending.0 a c.args.space.now c.args.shelf.now c.args.commons.now e outer c.deepest-owner.result c.deepest-owner.ensures.1)

pub release_owner-requires-clause-top : goal.release_owner-requires-clause-top
release_owner-requires-clause-top g c =
    let a : StoreState = record { tree = c.store.inside.tree; owners = c.store.inside.owners; levels = c.store.inside.levels; portals = c.store.inside.portals } in
    let e = subst (λ (v : StoreState). IsEnding c.requires.ending.0 v c.args.space.now c.args.shelf.now c.args.commons.now []) (sym c.store.view_is) c.requires.ending.1 in
    level_owner_top c.requires.ending.0 a c.args.space.now c.args.shelf.now c.args.commons.now e c.deepest-owner.ensures.0 c.deepest-owner.result c.deepest-owner.ensures.1
    (c.depth-top.result == 1) (ap (λ (n : ℕ). n == 1) c.depth-top.ensures.depth)

pub release_owner-requires-clause-serves : goal.release_owner-requires-clause-serves
release_owner-requires-clause-serves g c = subst (λ (v : StoreState). Serves v.owners c.args.commons.now) (sym c.store.view_is) c.requires.serves

pub release_owner-requires-clause-fit : goal.release_owner-requires-clause-fit
release_owner-requires-clause-fit g c =
    let a : StoreState = record { tree = c.store.inside.tree; owners = c.store.inside.owners; levels = c.store.inside.levels; portals = c.store.inside.portals } in
    let e = subst (λ (v : StoreState). IsEnding c.requires.ending.0 v c.args.space.now c.args.shelf.now c.args.commons.now []) (sym c.store.view_is) c.requires.ending.1 in
    plans_can a c.args.space.now c.args.shelf.now (keeps_in _ _ _ _ _ c.store.view_is _ c.requires.keeps) (may_ended c.requires.ending.0 a c.args.space.now c.args.shelf.now c.args.commons.now e) c.store.invariant

pub invariant_of-store : goal.invariant_of-store
invariant_of-store g c =
    let a : StoreState = record { tree = c.store.inside.tree; owners = c.store.inside.owners; levels = c.store.inside.levels; portals = c.store.inside.portals } in
    let b : StoreState = record { tree = c.release_owner.new.place.tree.now; owners = c.release_owner.new.resources; levels = a.levels; portals = a.portals } in
    let r = c.release_owner.ensures in
    let keeps = keeps_in _ _ _ _ _ c.store.view_is c.args.space.now c.requires.keeps in
    placed_out a b c.args.space.now c.release_owner.new.place.space.now
    (out_owners a b.tree b.owners c.args.space.now c.release_owner.new.place.space.now keeps (r.went keeps.agrees) (go_by a.owners c.release_owner.new.resources r.stays r.places r.left) r.next_owner r.next_serial)
    a.portals r.left c.store.invariant

pub returns-clause-acted : goal.returns-clause-acted
unfolding session_of
returns-clause-acted g c =
    let a : StoreState = record { tree = c.store.inside.tree; owners = c.store.inside.owners; levels = c.store.inside.levels; portals = c.store.inside.portals } in
    let r = c.release_owner.ensures in
    let keeps = keeps_in _ _ _ _ _ c.store.view_is c.args.space.now c.requires.keeps in
    let level : Level = c.deepest-owner.result in
    let b : StoreState = record { tree = c.release_owner.new.place.tree.now; owners = c.release_owner.new.resources; levels = a.levels; portals = a.portals } in
    let is : owner_of (first_of (levels_of a.levels)) ≡ number_in level.owner = ap (λ (ls : List LevelState). owner_of (first_of ls)) (ap levels_of c.deepest-owner.ensures.1 ∙ levels_are c.deepest-owner.ensures.0 level) in
    let top : (c.depth-top.result == 1) ≡ (length a.levels == 1) = ap (λ (n : ℕ). n == 1) c.depth-top.ensures.depth in
    subst (λ (t : Space). Acted (level_released c.args.commit (length c.args.store.now.levels == 1)) c.args.store.now (record { tree = c.release_owner.new.place.tree.now; owners = c.release_owner.new.resources; levels = c.store.inside.levels; portals = c.store.inside.portals }) c.args.space.now t c.args.shelf.now c.shelf-1.given.0 c.args.commons.now c.release_owner.new.commons (λ events. g.E.Emit.emits c.args.out.now events c.release_owner.new.out)) (sym (c.space-1.given.1 (sym c.release_owner.ensures.space)))
    (subst (λ (y : ShelfState). Acted (level_released c.args.commit (length c.args.store.now.levels == 1)) c.args.store.now (record { tree = c.release_owner.new.place.tree.now; owners = c.release_owner.new.resources; levels = c.store.inside.levels; portals = c.store.inside.portals }) c.args.space.now c.release_owner.new.place.space.now c.args.shelf.now y c.args.commons.now c.release_owner.new.commons (λ events. g.E.Emit.emits c.args.out.now events c.release_owner.new.out)) (sym (c.shelf-1.given.1 (sym c.release_owner.ensures.shelf)))
    (subst (λ (v : StoreState). Acted (level_released c.args.commit (length v.levels == 1)) v b c.args.space.now c.release_owner.new.place.space.now c.args.shelf.now c.release_owner.new.place.shelf.now c.args.commons.now c.release_owner.new.commons (λ events. g.E.Emit.emits c.args.out.now events c.release_owner.new.out)) c.store.view_is
    (acted_as (λ scene. where_there (number_in level.owner) (owner_released c.args.commit (c.depth-top.result == 1)) scene) (level_released c.args.commit (length a.levels == 1)) a b c.args.space.now c.release_owner.new.place.space.now c.args.shelf.now c.release_owner.new.place.shelf.now c.args.commons.now c.release_owner.new.commons (λ events. g.E.Emit.emits c.args.out.now events c.release_owner.new.out)
    (λ around.
    ap (λ (o : Option ℕ). where_there o (owner_released c.args.commit (c.depth-top.result == 1)) (scene_of a c.args.space.now c.args.shelf.now c.args.commons.now around)) (sym is)
    ∙ ap (λ (t : Bool). where_there (owner_of (first_of (levels_of a.levels))) (owner_released c.args.commit t) (scene_of a c.args.space.now c.args.shelf.now c.args.commons.now around)) top)
    (acted_on (λ scene. where_there (number_in level.owner) (owner_released c.args.commit (c.depth-top.result == 1)) scene) a c.release_owner.new.place.tree.now c.release_owner.new.resources c.args.space.now c.release_owner.new.place.space.now c.args.shelf.now c.release_owner.new.place.shelf.now c.args.commons.now c.release_owner.new.commons (λ events. g.E.Emit.emits c.args.out.now events c.release_owner.new.out)
    r.acted (r.went keeps.agrees) r.balances))))

pub returns-clause-alone : goal.returns-clause-alone
returns-clause-alone g c =
    let a : StoreState = record { tree = c.store.inside.tree; owners = c.store.inside.owners; levels = c.store.inside.levels; portals = c.store.inside.portals } in
    let r = c.release_owner.ensures in
    let keeps = keeps_in _ _ _ _ _ c.store.view_is c.args.space.now c.requires.keeps in
    subst (λ (t : Space). BothAlone c.args.store.now (record { tree = c.release_owner.new.place.tree.now; owners = c.release_owner.new.resources; levels = c.store.inside.levels; portals = c.store.inside.portals }) c.args.space.now t c.args.commons.now c.release_owner.new.commons) (sym (c.space-1.given.1 (sym c.release_owner.ensures.space)))
    (subst (λ (v : StoreState). BothAlone v (record { tree = c.release_owner.new.place.tree.now; owners = c.release_owner.new.resources; levels = a.levels; portals = a.portals }) c.args.space.now c.release_owner.new.place.space.now c.args.commons.now c.release_owner.new.commons) c.store.view_is
    (both_alone a c.release_owner.new.place.tree.now c.release_owner.new.resources c.args.space.now c.release_owner.new.place.space.now c.args.commons.now c.release_owner.new.commons keeps
    (goes_of a.tree c.release_owner.new.place.tree.now c.args.space.now c.release_owner.new.place.space.now (r.went keeps.agrees))
    (λ n there. ap (λ (f : Forest ℕ). at n f) r.places) r.balances))

pub returns-clause-asked : goal.returns-clause-asked
returns-clause-asked g c =
    let keeps = keeps_in _ _ _ _ _ c.store.view_is c.args.space.now c.requires.keeps in
    subst (λ (t : Space). Asks c.args.store.now.tree.account 0 c.args.space.now t) (sym (c.space-1.given.1 (sym c.release_owner.ensures.space)))
    (subst (λ (v : StoreState). Asks v.tree.account 0 c.args.space.now c.release_owner.new.place.space.now) c.store.view_is (c.release_owner.ensures.went keeps.agrees).asked)

pub returns-clause-current : goal.returns-clause-current
returns-clause-current g c =
    let keeps = keeps_in _ _ _ _ _ c.store.view_is c.args.space.now c.requires.keeps in
    (c.release_owner.ensures.went keeps.agrees).current ∙ ap (λ (v : StoreState). v.tree.current) c.store.view_is

pub returns-clause-free : goal.returns-clause-free
returns-clause-free g c =
    let a : StoreState = record { tree = c.store.inside.tree; owners = c.store.inside.owners; levels = c.store.inside.levels; portals = c.store.inside.portals } in
    let r = c.release_owner.ensures in
    let keeps = keeps_in _ _ _ _ _ c.store.view_is c.args.space.now c.requires.keeps in
    let e = subst (λ (v : StoreState). IsEnding c.requires.ending.0 v c.args.space.now c.args.shelf.now c.args.commons.now []) (sym c.store.view_is) c.requires.ending.1 in
    subst (λ (t : Space). MayLeave (record { tree = c.release_owner.new.place.tree.now; owners = c.release_owner.new.resources; levels = c.store.inside.levels; portals = c.store.inside.portals }) t c.shelf-1.given.0) (sym (c.space-1.given.1 (sym c.release_owner.ensures.space)))
    (subst (λ (y : ShelfState). MayLeave (record { tree = c.release_owner.new.place.tree.now; owners = c.release_owner.new.resources; levels = c.store.inside.levels; portals = c.store.inside.portals }) c.release_owner.new.place.space.now y) (sym (c.shelf-1.given.1 (sym c.release_owner.ensures.shelf)))
    (leaves c.requires.ending.0 a c.args.space.now c.args.shelf.now c.args.commons.now e c.deepest-owner.ensures.0 c.deepest-owner.result c.deepest-owner.ensures.1
    c.args.commit (c.depth-top.result == 1) c.release_owner.new.place.tree.now c.release_owner.new.resources c.release_owner.new.place.space.now c.release_owner.new.place.shelf.now c.release_owner.new.commons (λ events. g.E.Emit.emits c.args.out.now events c.release_owner.new.out)
    r.acted (r.went keeps.agrees) r.nothing_left))
