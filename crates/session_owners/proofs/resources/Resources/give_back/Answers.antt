use Rattle.session_owners.proofs.Base.{arith, List, ap, refl, subst, sym}
use Rattle.session_owners.proofs.Words.{What, item_released, CommonState, ActedOn, Hosting, hosting_of, AreLeft, ResourceState, owners_of, lending_of}
use Rattle.session_owners.proofs.Lemmas.{acted_given, state_of, agrees_fit, balances_given, beside_counted, locks_moved, pins_moved, served, serves_still, shared_fit, counted_given, found_given, is_counted}
use Rattle.session_owners.proofs.resources.Resources.give_back.Goals as goal

pub give_back-requires-clause-fit : goal.give_back-requires-clause-fit
give_back-requires-clause-fit g c = grind (arith, agrees_fit (state_of c.self.inside.owners c.self.inside.tables.files c.self.inside.locks c.self.inside.tables.snapshots.stack c.self.inside.tables.plans) c.args.self.now, state_of c.self.inside.owners c.self.inside.tables.files c.self.inside.locks c.self.inside.tables.snapshots.stack c.self.inside.tables.plans, shared_fit c.self.inside.owners c.self.inside.tables c.args.self.now, c.self.invariant.buffers, c.self.view_is, c.commons.view_is, c.requires.serves, c.self.invariant, c.requires.fit)

pub give_back-requires-clause-counted : goal.give_back-requires-clause-counted
give_back-requires-clause-counted g c =
    is_counted c.args.owner.number c.args.kind c.args.key c.in-Ok.item c.self.inside.owners (lending_of c.self.inside.tables c.commons.inside.kinds c.self.inside.locks.locks (g.P.PlanContexts.contexts c.args.place.now) (g.P.PlanContexts.shelf c.args.place.now)) c.self.invariant
    (served c.self.inside.owners c.args.self.now c.args.commons.now c.commons.inside.kinds (sym (ap owners_of c.self.view_is)) (sym (ap (λ (z : CommonState). z.kinds) c.commons.view_is)) c.requires.serves)
    (found_given _ _ c.forget.result c.in-Ok.item c.in-Ok.is c.forget.ensures.item c.forget.ensures.releasing)

pub invariant_of-self-2 : goal.invariant_of-self-2
invariant_of-self-2 g c =
    counted_given c.self.inside.owners _ (lending_of c.self.inside.tables c.commons.inside.kinds c.self.inside.locks.locks (g.P.PlanContexts.contexts c.args.place.now) (g.P.PlanContexts.shelf c.args.place.now)) (lending_of c.give_back.new.self.tables.now c.give_back.new.self.kinds.now c.give_back.new.self.locks.now.locks (g.P.PlanContexts.contexts c.give_back.new.self.place.now) (g.P.PlanContexts.shelf c.give_back.new.self.place.now)) c.args.owner.number c.args.kind c.args.key c.in-Ok.item c.self.invariant
    (found_given _ _ c.forget.result c.in-Ok.item c.in-Ok.is c.forget.ensures.item c.forget.ensures.releasing)
    c.give_back.ensures.fit.0 c.give_back.ensures.done.1.9.fewer c.give_back.ensures.done.1.9.fewer_plans c.give_back.ensures.counted c.in-Ok.ensures.owners c.forget.ensures.next_owner c.forget.ensures.next_serial

pub returns-clause-acted : goal.returns-clause-acted
returns-clause-acted g c =
    let done = c.give_back.ensures.done in
    let was : ResourceState = state_of c.self.inside.owners c.self.inside.tables.files c.self.inside.locks c.self.inside.tables.snapshots.stack c.self.inside.tables.plans in
    let now : ResourceState = state_of c.forget.new.self c.give_back.new.self.tables.now.files c.give_back.new.self.locks.now c.give_back.new.self.tables.now.snapshots.stack c.give_back.new.self.tables.now.plans in
    let before : CommonState = record { kinds = c.commons.inside.kinds; locks = c.commons.inside.locks; pins = c.commons.inside.pins } in
    let behind : CommonState = record { kinds = c.give_back.new.self.kinds.now; locks = c.give_back.new.self.shared.now; pins = c.give_back.new.self.pins.now } in
    let shared = beside_counted c.self.inside.owners c.forget.new.self c.self.inside.tables c.give_back.new.self.tables.now before.pins behind.pins c.self.invariant (invariant_of-self-2 g c) done.1.7 in
    let host : Hosting = hosting_of (g.P.PlanContexts.contexts c.args.place.now) (g.P.PlanContexts.shelf c.args.place.now) in
    let hosts : Hosting = hosting_of (g.P.PlanContexts.contexts c.give_back.new.self.place.now) (g.P.PlanContexts.shelf c.give_back.new.self.place.now) in
    let says : List What → Type 0 = λ (events : List What). g.E.Emit.emits c.args.out.now events c.give_back.new.out in
    subst (λ (place : g.row.P.Denot). ActedOn (item_released c.args.owner.number c.args.kind c.args.key) c.args.self.now now host (hosting_of (g.P.PlanContexts.contexts place) (g.P.PlanContexts.shelf place)) c.args.commons.now behind says) (sym (c.place-1.given.1 (sym done.1.5)))
    (subst (λ (a : ResourceState). ActedOn (item_released c.args.owner.number c.args.kind c.args.key) a now host hosts c.args.commons.now behind says) c.self.view_is
    (subst (λ (z : CommonState). ActedOn (item_released c.args.owner.number c.args.kind c.args.key) was now host hosts z behind says) c.commons.view_is
    (acted_given was now before behind (lending_of c.self.inside.tables c.commons.inside.kinds c.self.inside.locks.locks (g.P.PlanContexts.contexts c.args.place.now) (g.P.PlanContexts.shelf c.args.place.now)) (lending_of c.give_back.new.self.tables.now c.give_back.new.self.kinds.now c.give_back.new.self.locks.now.locks (g.P.PlanContexts.contexts c.give_back.new.self.place.now) (g.P.PlanContexts.shelf c.give_back.new.self.place.now)) refl refl refl refl done.1.9.descriptors refl refl done.1.6 shared done.1.9.stack refl refl
    c.args.owner.number c.args.kind c.args.key c.in-Ok.item done.0 says
    (found_given _ _ c.forget.result c.in-Ok.item c.in-Ok.is c.forget.ensures.item c.forget.ensures.releasing)
    c.in-Ok.ensures.owners c.forget.ensures.next_owner c.forget.ensures.next_serial done.1.9 (g.met.E.Emit.emits_more _ _ _ _ _ _ c.in-Ok.ensures.emits done.2 refl))))

pub returns-clause-balances : goal.returns-clause-balances
returns-clause-balances g c =
    balances_given c.self.inside.owners _ _ _ _ (lending_of c.self.inside.tables c.commons.inside.kinds c.self.inside.locks.locks (g.P.PlanContexts.contexts c.args.place.now) (g.P.PlanContexts.shelf c.args.place.now)) (lending_of c.give_back.new.self.tables.now c.give_back.new.self.kinds.now c.give_back.new.self.locks.now.locks (g.P.PlanContexts.contexts c.give_back.new.self.place.now) (g.P.PlanContexts.shelf c.give_back.new.self.place.now)) c.args.owner.number c.args.kind c.args.key c.in-Ok.item c.self.invariant
    (sym (ap owners_of c.self.view_is)) (sym (ap (λ (z : CommonState). z.kinds) c.commons.view_is)) refl
    (found_given _ _ c.forget.result c.in-Ok.item c.in-Ok.is c.forget.ensures.item c.forget.ensures.releasing)
    c.in-Ok.ensures.owners c.give_back.ensures.kinds c.give_back.ensures.done.1.9.limits c.give_back.ensures.counted
    (pins_moved c.self.inside.tables.pins c.give_back.new.self.tables.now.pins (record { kinds = c.commons.inside.kinds; locks = c.commons.inside.locks; pins = c.commons.inside.pins }) c.args.commons.now c.give_back.new.self.pins.now c.commons.view_is c.give_back.ensures.done.1.7)
    (locks_moved (state_of c.self.inside.owners c.self.inside.tables.files c.self.inside.locks c.self.inside.tables.snapshots.stack c.self.inside.tables.plans) _ _ (record { kinds = c.commons.inside.kinds; locks = c.commons.inside.locks; pins = c.commons.inside.pins }) _ _ c.self.view_is c.commons.view_is c.give_back.ensures.done.1.6)

pub returns-clause-serves : goal.returns-clause-serves
returns-clause-serves g c = serves_still _ _ _ _ c.requires.serves (returns-clause-balances g c)

pub returns-clause-left : goal.returns-clause-left
returns-clause-left g c = subst (λ (r : ResourceState). AreLeft r.plans.standing c.give_back.new.self.tables.now.plans.standing) c.self.view_is c.give_back.ensures.done.1.9.left
