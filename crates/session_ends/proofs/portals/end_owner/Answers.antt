-- The owner is released and goes.
use Rattle.session_ends.proofs.Base.{◌≡◌, ℕ, true, false, Some, [], ◌∷◌, IfSome, refl, sym, subst, option_map}
use Rattle.session_ends.proofs.Words.{Space, Forest, at, parent_of, OwnerId, ShelfState, owners_of, Serves, serves_still, AreLeft, Scene, Ended, in_order, where_there, owner_gone, owner_released, StoreState, scene_of, Acted, acted_as, owners_acted, keeps_in, GoesOut, PlansMayGo, number_in, owner_ended}
use Rattle.session_owners.specs.ResourceState as owners
use Rattle.session_ends.proofs.Lemmas.{acted_end, acted_on, acted_then, go_by, plans_can, out_gone, out_more, out_owners, placed_out, ended_is, has_parent}
use Rattle.session_ends.proofs.portals.end_owner.Goals as goal

pub release_owner-requires : goal.release_owner-requires
release_owner-requires g c = record {
  live = subst (λ (v : StoreState). IfSome c.args.owner (owners.IsLive v.owners)) (sym c.store.view_is) c.requires.live;
  top = has_parent c.args.owner c.store.inside.owners
      (subst (λ (v : StoreState). IfSome c.args.owner (λ (o : OwnerId). (p : ℕ) × (parent_of o.number (owners_of v.owners) ≡ Some p))) (sym c.store.view_is) c.requires.below);
  serves = subst (λ (v : StoreState). Serves v.owners c.args.commons.now) (sym c.store.view_is) c.requires.serves;
  fit =
      let a : StoreState = record { tree = c.store.inside.tree; owners = c.store.inside.owners; levels = c.store.inside.levels; portals = c.store.inside.portals } in
      plans_can a c.args.space.now c.args.shelf.now (keeps_in _ _ _ _ _ c.store.view_is _ c.requires.keeps) (subst (λ (v : StoreState). PlansMayGo v c.args.space.now c.args.shelf.now) (sym c.store.view_is) c.requires.plans) c.store.invariant;
}

pub discard_owner-requires-clause-live : goal.discard_owner-requires-clause-live
discard_owner-requires-clause-live g c =
    subst (λ (f : Forest ℕ). IfSome c.args.owner (λ (o : OwnerId). at o.number f ≡ Some o.slot)) (sym c.release_owner.ensures.places)
    (subst (λ (v : StoreState). IfSome c.args.owner (owners.IsLive v.owners)) (sym c.store.view_is) c.requires.live)

pub invariant_of-store : goal.invariant_of-store
invariant_of-store g c =
    let a : StoreState = record { tree = c.store.inside.tree; owners = c.store.inside.owners; levels = c.store.inside.levels; portals = c.store.inside.portals } in
    let b : StoreState = record { tree = c.release_owner.new.place.tree.now; owners = c.release_owner.new.resources; levels = a.levels; portals = a.portals } in
    let d : StoreState = record { tree = b.tree; owners = c.discard_owner.new.resources; levels = a.levels; portals = a.portals } in
    let r = c.release_owner.ensures in
    let q = c.discard_owner.ensures in
    let keeps = keeps_in _ _ _ _ _ c.store.view_is c.args.space.now c.requires.keeps in
    let first = out_owners a b.tree b.owners c.args.space.now c.release_owner.new.place.space.now keeps (r.went keeps.agrees) (go_by a.owners c.release_owner.new.resources r.stays r.places r.left) r.next_owner r.next_serial in
    placed_out b d c.release_owner.new.place.space.now c.release_owner.new.place.space.now (out_gone b d.owners c.release_owner.new.place.space.now first.keeps q.had q.stays q.next_owner q.next_serial) a.portals
    (subst (λ p. AreLeft b.owners.plans.standing p.standing) (sym q.plans) (λ id here. here))
    (placed_out a b c.args.space.now c.release_owner.new.place.space.now first a.portals r.left c.store.invariant)

pub returns-clause-acted : goal.returns-clause-acted
returns-clause-acted g c =
    let a : StoreState = record { tree = c.store.inside.tree; owners = c.store.inside.owners; levels = c.store.inside.levels; portals = c.store.inside.portals } in
    let b : StoreState = record { tree = c.release_owner.new.place.tree.now; owners = c.release_owner.new.resources; levels = a.levels; portals = a.portals } in
    let d : StoreState = record { tree = b.tree; owners = c.discard_owner.new.resources; levels = a.levels; portals = a.portals } in
    let r = c.release_owner.ensures in
    let q = c.discard_owner.ensures in
    let keeps = keeps_in _ _ _ _ _ c.store.view_is c.args.space.now c.requires.keeps in
    let s = c.args.space.now in
    let t = c.release_owner.new.place.space.now in
    let x = c.args.shelf.now in
    let y = c.release_owner.new.place.shelf.now in
    let m = c.args.commons.now in
    let k = c.release_owner.new.commons in
    let one : Scene → Ended = λ scene. where_there (option_map (λ (o : OwnerId). o.number) c.args.owner) (owner_released true false) scene in
    let two : Scene → Ended = λ scene. where_there (option_map (λ (o : OwnerId). o.number) c.args.owner) owner_gone scene in
    subst (λ (u : Space). Acted (owner_ended (number_in c.args.owner)) c.args.store.now d s u x c.shelf-1.given.0 m k (λ events. g.E.Emit.emits c.args.out.now events c.discard_owner.new.out)) (sym (c.space-1.given.1 (sym c.release_owner.ensures.space)))
    (subst (λ (w : ShelfState). Acted (owner_ended (number_in c.args.owner)) c.args.store.now d s t x w m k (λ events. g.E.Emit.emits c.args.out.now events c.discard_owner.new.out)) (sym (c.shelf-1.given.1 (sym c.release_owner.ensures.shelf)))
    (subst (λ (v : StoreState). Acted (owner_ended (number_in c.args.owner)) v d s t x y m k (λ events. g.E.Emit.emits c.args.out.now events c.discard_owner.new.out)) c.store.view_is
    (acted_as (in_order (one ∷ two ∷ [])) (owner_ended (number_in c.args.owner)) a d s t x y m k (λ events. g.E.Emit.emits c.args.out.now events c.discard_owner.new.out)
    (λ around. ended_is (number_in c.args.owner) (scene_of a s x m around))
    (acted_then _ (λ o events p. g.E.Emit.emits o events p) g.met.E.Emit.emits_none (λ o p q xs ys h k. g.met.E.Emit.emits_more _ _ _ _ _ _ h k refl) one (two ∷ []) a b d s t t x y y m k k c.args.out.now c.release_owner.new.out c.discard_owner.new.out
    (acted_on one a b.tree b.owners s t x y m k (λ events. g.E.Emit.emits c.args.out.now events c.release_owner.new.out) r.acted (r.went keeps.agrees) r.balances)
    (acted_then _ (λ o events p. g.E.Emit.emits o events p) g.met.E.Emit.emits_none (λ o p q xs ys h k. g.met.E.Emit.emits_more _ _ _ _ _ _ h k refl) two [] b d d t t t y y y k k k c.release_owner.new.out c.discard_owner.new.out c.discard_owner.new.out
    (owners_acted two b d.owners t y k k (λ events. g.E.Emit.emits c.release_owner.new.out events c.discard_owner.new.out) (q.acted k) (q.balances k))
    (acted_end _ (λ o events p. g.E.Emit.emits o events p) g.met.E.Emit.emits_none (λ o p q xs ys h k. g.met.E.Emit.emits_more _ _ _ _ _ _ h k refl) d t y k c.discard_owner.new.out))))))

pub returns-clause-out : goal.returns-clause-out
returns-clause-out g c =
    let a : StoreState = record { tree = c.store.inside.tree; owners = c.store.inside.owners; levels = c.store.inside.levels; portals = c.store.inside.portals } in
    let b : StoreState = record { tree = c.release_owner.new.place.tree.now; owners = c.release_owner.new.resources; levels = a.levels; portals = a.portals } in
    let d : StoreState = record { tree = b.tree; owners = c.discard_owner.new.resources; levels = a.levels; portals = a.portals } in
    let r = c.release_owner.ensures in
    let q = c.discard_owner.ensures in
    let keeps = keeps_in _ _ _ _ _ c.store.view_is c.args.space.now c.requires.keeps in
    let t = c.release_owner.new.place.space.now in
    let first = out_owners a b.tree b.owners c.args.space.now t keeps (r.went keeps.agrees) (go_by a.owners c.release_owner.new.resources r.stays r.places r.left) r.next_owner r.next_serial in
    subst (λ (u : Space). GoesOut c.args.store.now d c.args.space.now u) (sym (c.space-1.given.1 (sym c.release_owner.ensures.space)))
    (subst (λ (v : StoreState). GoesOut v d c.args.space.now t) c.store.view_is
    (out_more a b d c.args.space.now t t first (out_gone b d.owners t first.keeps q.had q.stays q.next_owner q.next_serial)))

pub returns-clause-serves : goal.returns-clause-serves
returns-clause-serves g c =
    serves_still c.release_owner.new.resources c.discard_owner.new.resources c.release_owner.new.commons c.release_owner.new.commons c.release_owner.ensures.serves (c.discard_owner.ensures.balances c.release_owner.new.commons)
