-- The owner moves, or nothing is done.
use Rattle.session_ends.proofs.Base.{◌≡◌, true, IfSome, sym, subst, option_map}
use Rattle.session_ends.proofs.Words.{Empty, Once, children, has, OwnerId, owners_of, where_there, owner_moved, StoreState, owners_after, keeps_in, GoesOut}
use Rattle.session_owners.specs.ResourceState as owners
use Rattle.session_ends.proofs.Lemmas.{out_moved, placed_owned}
use Rattle.session_ends.proofs.portal_parts.move_to.Goals as goal

pub move_owner-requires-clause-live : goal.move_owner-requires-clause-live
move_owner-requires-clause-live g c = subst (λ (v : StoreState). IfSome c.args.owner (owners.IsLive v.owners)) (sym c.store.view_is) c.requires.live

pub move_owner-requires-clause-to : goal.move_owner-requires-clause-to
move_owner-requires-clause-to g c = subst (λ (v : StoreState). IfSome c.args.to (owners.IsLive v.owners)) (sym c.store.view_is) c.requires.to

pub move_owner-requires-clause-there : goal.move_owner-requires-clause-there
move_owner-requires-clause-there g c = subst (λ (v : StoreState). IfSome c.args.owner (λ (o : OwnerId). has o.number (owners_of v.owners) ≡ true)) (sym c.store.view_is) c.requires.there

pub move_owner-requires-clause-to_there : goal.move_owner-requires-clause-to_there
move_owner-requires-clause-to_there g c = subst (λ (v : StoreState). IfSome c.args.to (λ (o : OwnerId). has o.number (owners_of v.owners) ≡ true)) (sym c.store.view_is) c.requires.to_there

pub move_owner-requires-clause-lone : goal.move_owner-requires-clause-lone
move_owner-requires-clause-lone g c = subst (λ (v : StoreState). IfSome c.args.owner (λ (o : OwnerId). children o.number (owners_of v.owners) ≡ Empty)) (sym c.store.view_is) c.requires.lone

pub move_owner-requires-clause-once : goal.move_owner-requires-clause-once
move_owner-requires-clause-once g c = subst (λ (v : StoreState). Once (owners_of v.owners)) (sym c.store.view_is) c.requires.once

pub invariant_of-store : goal.invariant_of-store
invariant_of-store g c =
    let r = c.move_owner.ensures in
    placed_owned c.store.inside.tree c.store.inside.owners c.move_owner.new.resources c.store.inside.levels c.store.inside.portals r.had (λ id live there. r.stays id live) r.plans c.store.invariant

pub returns-clause-acted : goal.returns-clause-acted
returns-clause-acted g c s x commons =
    owners_after c.store.inside.tree c.store.inside.owners c.store.inside.levels c.store.inside.portals c.args.store.now c.store.view_is
    (λ scene. where_there (option_map (λ (id : OwnerId). id.number) c.args.owner) (λ o. where_there (option_map (λ (id : OwnerId). id.number) c.args.to) (owner_moved o)) scene) c.move_owner.new.resources s x commons commons (λ events. g.E.Emit.emits c.args.out.now events c.move_owner.new.out)
    (c.move_owner.ensures.acted commons) (c.move_owner.ensures.balances commons)

pub returns-clause-out : goal.returns-clause-out
returns-clause-out g c s keeps =
    let r = c.move_owner.ensures in
    let a : StoreState = record { tree = c.store.inside.tree; owners = c.store.inside.owners; levels = c.store.inside.levels; portals = c.store.inside.portals } in
    subst (λ (v : StoreState). GoesOut v (record { tree = c.store.inside.tree; owners = c.move_owner.new.resources; levels = c.store.inside.levels; portals = c.store.inside.portals }) s s) c.store.view_is
    (out_moved a c.move_owner.new.resources s (keeps_in _ _ _ _ _ c.store.view_is s keeps) r.had (λ id live there. r.stays id live) r.next_owner r.next_serial)

pub returns-clause-stays : goal.returns-clause-stays
returns-clause-stays g c id live = c.move_owner.ensures.stays id (subst (λ (v : StoreState). owners.IsLive v.owners id) (sym c.store.view_is) live)
