use Rattle.session_owners.proofs.Base.{arith, List, ap, refl, subst, sym}
use Rattle.session_owners.proofs.Words.{What, table_of, all_below, phase_released, items_known, CommonState, ActedOn, Hosting, hosting_of, AreLeft, ResourceState, lending_of}
use Rattle.session_owners.proofs.Lemmas.{acted_phase, state_of, agrees_fit, balances_released, beside_counted, known_items, locks_moved, pins_moved, served, serves_still, shared_fit, asked_counts, counted_released}
use Rattle.owner_core.specs.Owners.{owners_of}
use Rattle.session_owners.specs.ResourceState as state
use Rattle.session_owners.proofs.resources.Resources.release_phase.Goals as goal

pub release-requires-clause-fit : goal.release-requires-clause-fit
release-requires-clause-fit g c = grind (arith, agrees_fit (state_of c.self.inside.owners c.self.inside.tables.files c.self.inside.locks c.self.inside.tables.snapshots.stack c.self.inside.tables.plans) c.args.self.now, state_of c.self.inside.owners c.self.inside.tables.files c.self.inside.locks c.self.inside.tables.snapshots.stack c.self.inside.tables.plans, shared_fit c.self.inside.owners c.self.inside.tables c.args.self.now, c.self.invariant.buffers, c.self.view_is, c.commons.view_is, c.requires.serves, c.self.invariant, c.requires.fit)

pub release-requires-clause-kinds : goal.release-requires-clause-kinds
release-requires-clause-kinds g c = grind (arith, items_known (table_of c.commons.inside.kinds) (owners_of c.self.inside.owners), known_items c.self.inside.owners c.args.self.now c.args.commons.now c.commons.inside.kinds (sym (ap state.owners_of c.self.view_is)), all_below, c.self.view_is, c.commons.view_is, c.requires.serves)

pub release-requires-clause-counted : goal.release-requires-clause-counted
release-requires-clause-counted g c =
    asked_counts c.self.inside.owners (lending_of c.self.inside.tables c.commons.inside.kinds c.self.inside.locks.locks (g.P.PlanContexts.contexts c.args.place.now) (g.P.PlanContexts.shelf c.args.place.now)) c.args.owner.number c.self.invariant
    (served c.self.inside.owners c.args.self.now c.args.commons.now c.commons.inside.kinds (sym (ap state.owners_of c.self.view_is)) (sym (ap (λ (z : CommonState). z.kinds) c.commons.view_is)) c.requires.serves)

pub invariant_of-self : goal.invariant_of-self
invariant_of-self g c =
    counted_released (table_of c.commons.inside.kinds) c.self.inside.owners _ (lending_of c.self.inside.tables c.commons.inside.kinds c.self.inside.locks.locks (g.P.PlanContexts.contexts c.args.place.now) (g.P.PlanContexts.shelf c.args.place.now)) (lending_of c.release.new.table.tables.now c.release.new.table.kinds.now c.release.new.table.locks.now.locks (g.P.PlanContexts.contexts c.release.new.table.place.now) (g.P.PlanContexts.shelf c.release.new.table.place.now)) c.args.owner.number c.args.phase c.self.invariant
    c.release.ensures.owners c.release.ensures.next_owner c.release.ensures.next_serial c.release.ensures.fit.0 c.release.ensures.steps.1.9.fewer c.release.ensures.steps.1.9.fewer_plans c.release.ensures.counted

pub returns-clause-acted : goal.returns-clause-acted
returns-clause-acted g c =
    let done = c.release.ensures.steps in
    let was : ResourceState = state_of c.self.inside.owners c.self.inside.tables.files c.self.inside.locks c.self.inside.tables.snapshots.stack c.self.inside.tables.plans in
    let now : ResourceState = state_of c.release.new.self c.release.new.table.tables.now.files c.release.new.table.locks.now c.release.new.table.tables.now.snapshots.stack c.release.new.table.tables.now.plans in
    let before : CommonState = record { kinds = c.commons.inside.kinds; locks = c.commons.inside.locks; pins = c.commons.inside.pins } in
    let behind : CommonState = record { kinds = c.release.new.table.kinds.now; locks = c.release.new.table.shared.now; pins = c.release.new.table.pins.now } in
    let shared = beside_counted c.self.inside.owners c.release.new.self c.self.inside.tables c.release.new.table.tables.now before.pins behind.pins c.self.invariant (invariant_of-self g c) done.1.7 in
    let host : Hosting = hosting_of (g.P.PlanContexts.contexts c.args.place.now) (g.P.PlanContexts.shelf c.args.place.now) in
    let hosts : Hosting = hosting_of (g.P.PlanContexts.contexts c.release.new.table.place.now) (g.P.PlanContexts.shelf c.release.new.table.place.now) in
    let says : List What → Type 0 = λ (events : List What). g.E.Emit.emits c.args.out.now events c.release.new.out in
    subst (λ (place : g.row.P.Denot). ActedOn (phase_released c.args.commit c.args.top c.args.owner.number c.args.phase) c.args.self.now now host (hosting_of (g.P.PlanContexts.contexts place) (g.P.PlanContexts.shelf place)) c.args.commons.now behind says) (sym (c.place-1.given.1 (sym done.1.5)))
    (subst (λ (a : ResourceState). ActedOn (phase_released c.args.commit c.args.top c.args.owner.number c.args.phase) a now host hosts c.args.commons.now behind says) c.self.view_is
    (subst (λ (z : CommonState). ActedOn (phase_released c.args.commit c.args.top c.args.owner.number c.args.phase) was now host hosts z behind says) c.commons.view_is
    (acted_phase was now before behind (lending_of c.self.inside.tables c.commons.inside.kinds c.self.inside.locks.locks (g.P.PlanContexts.contexts c.args.place.now) (g.P.PlanContexts.shelf c.args.place.now)) (lending_of c.release.new.table.tables.now c.release.new.table.kinds.now c.release.new.table.locks.now.locks (g.P.PlanContexts.contexts c.release.new.table.place.now) (g.P.PlanContexts.shelf c.release.new.table.place.now)) refl refl refl refl done.1.9.descriptors refl refl done.1.6 shared done.1.9.stack refl refl
    c.args.commit c.args.top c.args.owner.number c.args.phase done.0 says c.release.ensures.owners c.release.ensures.next_owner c.release.ensures.next_serial done.1.9 done.2)))

pub returns-clause-balances : goal.returns-clause-balances
returns-clause-balances g c =
    balances_released c.self.inside.owners _ _ _ _ (lending_of c.self.inside.tables c.commons.inside.kinds c.self.inside.locks.locks (g.P.PlanContexts.contexts c.args.place.now) (g.P.PlanContexts.shelf c.args.place.now)) (lending_of c.release.new.table.tables.now c.release.new.table.kinds.now c.release.new.table.locks.now.locks (g.P.PlanContexts.contexts c.release.new.table.place.now) (g.P.PlanContexts.shelf c.release.new.table.place.now)) c.args.owner.number c.args.phase c.self.invariant
    (sym (ap state.owners_of c.self.view_is)) (sym (ap (λ (z : CommonState). z.kinds) c.commons.view_is)) refl
    c.release.ensures.owners c.release.ensures.kinds c.release.ensures.steps.1.9.limits c.release.ensures.counted
    (pins_moved c.self.inside.tables.pins c.release.new.table.tables.now.pins (record { kinds = c.commons.inside.kinds; locks = c.commons.inside.locks; pins = c.commons.inside.pins }) c.args.commons.now c.release.new.table.pins.now c.commons.view_is c.release.ensures.steps.1.7)
    (locks_moved (state_of c.self.inside.owners c.self.inside.tables.files c.self.inside.locks c.self.inside.tables.snapshots.stack c.self.inside.tables.plans) _ _ (record { kinds = c.commons.inside.kinds; locks = c.commons.inside.locks; pins = c.commons.inside.pins }) _ _ c.self.view_is c.commons.view_is c.release.ensures.steps.1.6)

pub returns-clause-serves : goal.returns-clause-serves
returns-clause-serves g c = serves_still _ _ _ _ c.requires.serves (returns-clause-balances g c)

pub returns-clause-left : goal.returns-clause-left
returns-clause-left g c = subst (λ (r : ResourceState). AreLeft r.plans.standing c.release.new.table.tables.now.plans.standing) c.self.view_is c.release.ensures.steps.1.9.left
