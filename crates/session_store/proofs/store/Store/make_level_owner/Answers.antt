-- The owner of the level above lies where its id says, and the new one is below it.
use Rattle.session_store.proofs.Words.{◌<◌, All, List, Option, Some, length, IfSome, sym, ap, ◌∙◌, subst, ◌-◌, option_and_then, option_map, OwnerId, Plans, contexts_of, Level, OfLevel, new_owner_made, StoreState, IsPlaced, Lies, Acted, Keeps}
use Rattle.session_store.proofs.Lemmas.{deepest_new, ends, above_live, above_owner, deepest_placed, have_owners, keeps_parts, owner_acted, owner_on, have_portal_owners, portals_kept, stands_in}
use Rattle.session_owners.specs.ResourceState as owners
use Rattle.session_store.proofs.store.Store.make_level_owner.Goals as goal

pub make_owner-requires-clause-parent : goal.make_owner-requires-clause-parent
make_owner-requires-clause-parent g c =
    let a : StoreState = record { tree = c.self.inside.tree; owners = c.self.inside.owners; levels = c.self.inside.levels; portals = c.self.inside.portals } in
    subst (λ (o : Option OwnerId). IfSome o (owners.IsLive c.self.inside.owners)) (sym c.owner_in-parent.ensures)
    (above_live a _ _ c.requires.stands.1.1.0 (length c.self.inside.levels - 1) c.above.result c.self.invariant (stands_in _ _ _ _ _ c.self.view_is _ _ c.requires.stands.1.1.0 c.requires.stands.1.1.1) c.above.ensures)

pub invariant_of-self : goal.invariant_of-self
invariant_of-self g c =
    let a : StoreState = record { tree = c.self.inside.tree; owners = c.self.inside.owners; levels = c.self.inside.levels; portals = c.self.inside.portals } in
    let e = ends a.levels (subst (λ (v : StoreState). 0 < length v.levels) (sym c.self.view_is) c.requires.level) in
    subst (λ (ls : List Level). IsPlaced a.tree c.make_owner.new.self ls a.portals) (sym (deepest_new (λ level. record level { owner = Some c.in-Ok.owner }) a.levels e.0 e.1.0 c.set_owner.new.self c.set_owner.ensures e.1.1))
    (deepest_placed a.tree a.tree a.owners c.make_owner.new.self a.levels e.0 a.portals e.1.0 (record e.1.0 { owner = Some c.in-Ok.owner }) c.self.invariant e.1.1
    (λ l lies has. owner_on a.tree a.owners c.make_owner.new.self l c.in-Ok.ensures.stays lies has)
    (have_owners a _ _ c.requires.stands.1.1.0 (stands_in _ _ _ _ _ c.self.view_is _ _ c.requires.stands.1.1.0 c.requires.stands.1.1.1))
    (λ lies. record { context = lies.context; owner = λ there. c.in-Ok.ensures.live })
    c.self.invariant.current (subst (λ (p : Plans). All (Lies a.tree) (contexts_of p.standing)) (sym c.make_owner.ensures.plans) c.self.invariant.plans)
    (portals_kept a.tree a.owners c.make_owner.new.self a.portals c.in-Ok.ensures.stays c.self.invariant.portals
    (have_portal_owners a _ _ c.requires.stands.1.1.0 (stands_in _ _ _ _ _ c.self.view_is _ _ c.requires.stands.1.1.0 c.requires.stands.1.1.1))))

pub returns-in-Ok-clause-acted : goal.returns-in-Ok-clause-acted
returns-in-Ok-clause-acted g c s x commons =
    let a : StoreState = record { tree = c.self.inside.tree; owners = c.self.inside.owners; levels = c.self.inside.levels; portals = c.self.inside.portals } in
    let some : 0 < length a.levels = subst (λ (v : StoreState). 0 < length v.levels) (sym c.self.view_is) c.requires.level in
    let e = ends a.levels some in
    subst (λ (v : StoreState). Acted (new_owner_made OfLevel) v (record { tree = a.tree; owners = c.make_owner.new.self; levels = c.set_owner.new.self; portals = a.portals }) s s x x commons commons (λ events. g.E.Emit.emits c.args.out.now events c.make_owner.new.out)) c.self.view_is
    (subst (λ (ls : List Level). Acted (new_owner_made OfLevel) a (record { tree = a.tree; owners = c.make_owner.new.self; levels = ls; portals = a.portals }) s s x x commons commons (λ events. g.E.Emit.emits c.args.out.now events c.make_owner.new.out))
    (sym (deepest_new (λ level. record level { owner = Some c.in-Ok.owner }) a.levels e.0 e.1.0 c.set_owner.new.self c.set_owner.ensures e.1.1))
    (owner_acted a e.0 e.1.0 s x commons c.make_owner.new.self c.in-Ok.owner (option_map (λ p. p.number) c.owner_in-parent.result) (λ events. g.E.Emit.emits c.args.out.now events c.make_owner.new.out) e.1.1
    (ap (option_map (λ (p : OwnerId). p.number)) (c.owner_in-parent.ensures ∙ ap (option_and_then (λ (l : Level). l.owner)) c.above.ensures) ∙ above_owner a e.0 e.1.0 e.1.1)
    c.in-Ok.ensures.number (c.in-Ok.ensures.acted commons) (c.make_owner.ensures.balances commons)))

pub returns-in-Ok-clause-keeps : goal.returns-in-Ok-clause-keeps
returns-in-Ok-clause-keeps g c s keeps =
    keeps_parts (record { tree = c.self.inside.tree; owners = c.self.inside.owners; levels = c.self.inside.levels; portals = c.self.inside.portals }) c.make_owner.new.self c.set_owner.new.self s
    (subst (λ (v : StoreState). Keeps v s) (sym c.self.view_is) keeps)
