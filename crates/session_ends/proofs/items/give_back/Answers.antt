-- The owner remembers one item fewer, and a plan may have gone with its context; or nothing changed.
use Rattle.session_ends.proofs.Base.{ℕ, OnErr, OnOk, sym, ap, subst}
use Rattle.session_ends.proofs.Words.{Asks, Space, Forest, at, ShelfState, Serves, item_released, StoreState, Acted, BothAlone, Refused, on_answer, go_left, both_alone, keeps_in, GoesOut, PlansMayGo}
use Rattle.session_ends.proofs.Lemmas.{acted_on, err_three, goes_of, plans_can, plans_spare, refused_still, out_owners, placed_out}
use Rattle.session_ends.proofs.items.give_back.Goals as goal

pub give_back-requires-clause-serves : goal.give_back-requires-clause-serves
give_back-requires-clause-serves g c = subst (λ (v : StoreState). Serves v.owners c.args.commons.now) (sym c.store.view_is) c.requires.serves

pub give_back-requires-clause-fit : goal.give_back-requires-clause-fit
give_back-requires-clause-fit g c =
    let a : StoreState = record { tree = c.store.inside.tree; owners = c.store.inside.owners; levels = c.store.inside.levels; portals = c.store.inside.portals } in
    plans_can a c.args.space.now c.args.shelf.now (keeps_in _ _ _ _ _ c.store.view_is _ c.requires.keeps)
    (subst (λ (v : StoreState). PlansMayGo v c.args.space.now c.args.shelf.now) (sym c.store.view_is) c.requires.plans) c.store.invariant

pub invariant_of-store : goal.invariant_of-store
invariant_of-store g c =
    let a : StoreState = record { tree = c.store.inside.tree; owners = c.store.inside.owners; levels = c.store.inside.levels; portals = c.store.inside.portals } in
    let b : StoreState = record { tree = c.give_back.new.place.tree.now; owners = c.give_back.new.self; levels = a.levels; portals = a.portals } in
    let r = c.give_back.ensures in
    let keeps = keeps_in _ _ _ _ _ c.store.view_is c.args.space.now c.requires.keeps in
    placed_out a b c.args.space.now c.give_back.new.place.space.now
    (out_owners a b.tree b.owners c.args.space.now c.give_back.new.place.space.now keeps (r.went.3 keeps.agrees) (go_left c.give_back.result a.owners c.give_back.new.self _ _ r.owners r.refused r.places r.left) r.next_owner r.next_serial)
    a.portals r.left c.store.invariant

pub returns-clause-out : goal.returns-clause-out
returns-clause-out g c =
    let a : StoreState = record { tree = c.store.inside.tree; owners = c.store.inside.owners; levels = c.store.inside.levels; portals = c.store.inside.portals } in
    let b : StoreState = record { tree = c.give_back.new.place.tree.now; owners = c.give_back.new.self; levels = a.levels; portals = a.portals } in
    let r = c.give_back.ensures in
    let keeps = keeps_in _ _ _ _ _ c.store.view_is c.args.space.now c.requires.keeps in
    subst (λ (t : Space). GoesOut c.args.store.now (record { tree = c.give_back.new.place.tree.now; owners = c.give_back.new.self; levels = c.store.inside.levels; portals = c.store.inside.portals }) c.args.space.now t) (sym (c.space-1.given.1 (sym c.give_back.ensures.went.1)))
    (subst (λ (v : StoreState). GoesOut v b c.args.space.now c.give_back.new.place.space.now) c.store.view_is
    (out_owners a b.tree b.owners c.args.space.now c.give_back.new.place.space.now keeps (r.went.3 keeps.agrees) (go_left c.give_back.result a.owners c.give_back.new.self _ _ r.owners r.refused r.places r.left) r.next_owner r.next_serial))

pub returns-clause-plans : goal.returns-clause-plans
returns-clause-plans g c =
    let b : StoreState = record { tree = c.give_back.new.place.tree.now; owners = c.give_back.new.self; levels = c.store.inside.levels; portals = c.store.inside.portals } in
    subst (λ (t : Space). PlansMayGo b t c.shelf-1.given.0) (sym (c.space-1.given.1 (sym c.give_back.ensures.went.1)))
    (subst (λ (y : ShelfState). PlansMayGo b c.give_back.new.place.space.now y) (sym (c.shelf-1.given.1 (sym c.give_back.ensures.went.2)))
    (plans_spare b c.give_back.new.place.space.now c.give_back.new.place.shelf.now c.give_back.ensures.fit))

pub returns-clause-acted : goal.returns-clause-acted
returns-clause-acted g c =
    let a : StoreState = record { tree = c.store.inside.tree; owners = c.store.inside.owners; levels = c.store.inside.levels; portals = c.store.inside.portals } in
    let r = c.give_back.ensures in
    let keeps = keeps_in _ _ _ _ _ c.store.view_is c.args.space.now c.requires.keeps in
    subst (λ (t : Space). OnOk c.give_back.result (Acted (item_released c.args.owner.number c.args.kind c.args.key) c.args.store.now (record { tree = c.give_back.new.place.tree.now; owners = c.give_back.new.self; levels = c.store.inside.levels; portals = c.store.inside.portals }) c.args.space.now t c.args.shelf.now c.shelf-1.given.0 c.args.commons.now c.give_back.new.commons (λ events. g.E.Emit.emits c.args.out.now events c.give_back.new.out))) (sym (c.space-1.given.1 (sym c.give_back.ensures.went.1)))
    (subst (λ (y : ShelfState). OnOk c.give_back.result (Acted (item_released c.args.owner.number c.args.kind c.args.key) c.args.store.now (record { tree = c.give_back.new.place.tree.now; owners = c.give_back.new.self; levels = c.store.inside.levels; portals = c.store.inside.portals }) c.args.space.now c.give_back.new.place.space.now c.args.shelf.now y c.args.commons.now c.give_back.new.commons (λ events. g.E.Emit.emits c.args.out.now events c.give_back.new.out))) (sym (c.shelf-1.given.1 (sym c.give_back.ensures.went.2)))
    (on_answer c.give_back.result
    (λ acted.
    subst (λ (v : StoreState). Acted (item_released c.args.owner.number c.args.kind c.args.key) v (record { tree = c.give_back.new.place.tree.now; owners = c.give_back.new.self; levels = a.levels; portals = a.portals }) c.args.space.now c.give_back.new.place.space.now c.args.shelf.now c.give_back.new.place.shelf.now c.args.commons.now c.give_back.new.commons (λ events. g.E.Emit.emits c.args.out.now events c.give_back.new.out)) c.store.view_is
    (acted_on (item_released c.args.owner.number c.args.kind c.args.key) a c.give_back.new.place.tree.now c.give_back.new.self c.args.space.now c.give_back.new.place.space.now c.args.shelf.now c.give_back.new.place.shelf.now c.args.commons.now c.give_back.new.commons (λ events. g.E.Emit.emits c.args.out.now events c.give_back.new.out)
    acted (r.went.3 keeps.agrees) r.balances))
    r.acted))

pub returns-clause-alone : goal.returns-clause-alone
returns-clause-alone g c =
    let a : StoreState = record { tree = c.store.inside.tree; owners = c.store.inside.owners; levels = c.store.inside.levels; portals = c.store.inside.portals } in
    let r = c.give_back.ensures in
    let keeps = keeps_in _ _ _ _ _ c.store.view_is c.args.space.now c.requires.keeps in
    subst (λ (t : Space). BothAlone c.args.store.now (record { tree = c.give_back.new.place.tree.now; owners = c.give_back.new.self; levels = c.store.inside.levels; portals = c.store.inside.portals }) c.args.space.now t c.args.commons.now c.give_back.new.commons) (sym (c.space-1.given.1 (sym c.give_back.ensures.went.1)))
    (subst (λ (v : StoreState). BothAlone v (record { tree = c.give_back.new.place.tree.now; owners = c.give_back.new.self; levels = a.levels; portals = a.portals }) c.args.space.now c.give_back.new.place.space.now c.args.commons.now c.give_back.new.commons) c.store.view_is
    (both_alone a c.give_back.new.place.tree.now c.give_back.new.self c.args.space.now c.give_back.new.place.space.now c.args.commons.now c.give_back.new.commons keeps
    (goes_of a.tree c.give_back.new.place.tree.now c.args.space.now c.give_back.new.place.space.now (r.went.3 keeps.agrees))
    (λ n there. ap (λ (f : Forest ℕ). at n f) r.places) r.balances))

pub returns-clause-asked : goal.returns-clause-asked
returns-clause-asked g c =
    let keeps = keeps_in _ _ _ _ _ c.store.view_is c.args.space.now c.requires.keeps in
    subst (λ (t : Space). Asks c.args.store.now.tree.account 0 c.args.space.now t) (sym (c.space-1.given.1 (sym c.give_back.ensures.went.1)))
    (subst (λ (v : StoreState). Asks v.tree.account 0 c.args.space.now c.give_back.new.place.space.now) c.store.view_is (c.give_back.ensures.went.3 keeps.agrees).asked)

pub returns-clause-refused : goal.returns-clause-refused
returns-clause-refused g c =
    let a : StoreState = record { tree = c.store.inside.tree; owners = c.store.inside.owners; levels = c.store.inside.levels; portals = c.store.inside.portals } in
    let r = c.give_back.ensures in
    subst (λ (t : Space). OnErr c.give_back.result (Refused c.args.store.now (record { tree = c.give_back.new.place.tree.now; owners = c.give_back.new.self; levels = c.store.inside.levels; portals = c.store.inside.portals }) c.args.space.now t c.args.shelf.now c.shelf-1.given.0 c.args.commons.now c.give_back.new.commons)) (sym (c.space-1.given.1 (sym c.give_back.ensures.went.1)))
    (subst (λ (y : ShelfState). OnErr c.give_back.result (Refused c.args.store.now (record { tree = c.give_back.new.place.tree.now; owners = c.give_back.new.self; levels = c.store.inside.levels; portals = c.store.inside.portals }) c.args.space.now c.give_back.new.place.space.now c.args.shelf.now y c.args.commons.now c.give_back.new.commons)) (sym (c.shelf-1.given.1 (sym c.give_back.ensures.went.2)))
    (subst (λ (v : StoreState). OnErr c.give_back.result (Refused v (record { tree = c.give_back.new.place.tree.now; owners = c.give_back.new.self; levels = a.levels; portals = a.portals }) c.args.space.now c.give_back.new.place.space.now c.args.shelf.now c.give_back.new.place.shelf.now c.args.commons.now c.give_back.new.commons)) c.store.view_is
    (err_three c.give_back.result
    (λ owners commons place. refused_still a c.give_back.new.place.tree.now c.give_back.new.self c.args.space.now c.give_back.new.place.space.now c.args.shelf.now c.give_back.new.place.shelf.now c.args.commons.now c.give_back.new.commons
    (ap (λ p. p.tree.now) place) owners (ap (λ p. p.space.now) place) (ap (λ p. p.shelf.now) place) commons)
    r.refused r.untouched r.place)))
