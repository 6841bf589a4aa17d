use Rattle.session_owners.proofs.Base.{◌≤◌, List, ap, inl, subst, sym, arith, refl}
use Rattle.session_owners.proofs.Words.{What, buffer_pin, item_taken, CommonState, Acted, ResourceState, owners_of, spare_of, LocksBalance-nothing, Held}
use Rattle.session_owners.proofs.Lemmas.{counted_pinned, acted_pinned, state_of, balances_pinned, few_sessions, locks_moved, pins_counted, pins_moved, serves_still}
use Rattle.session_owners.proofs.resources.Resources.pin.Goals as goal

pub pin-requires-clause-room : goal.pin-requires-clause-room
pin-requires-clause-room g c =
    omega (arith, c.self.invariant.counted (record { 0 = 1 }) c.args.buffer (omega arith), c.self.invariant.few (record { 0 = 1 }) c.args.buffer, c.requires.serial, ap (λ (t : ResourceState). t.next_serial) c.self.view_is)

pub pin-requires-clause-sessions : goal.pin-requires-clause-sessions
pin-requires-clause-sessions g c = few_sessions c.args.self.now (record { kinds = c.commons.inside.kinds; locks = c.commons.inside.locks; pins = c.commons.inside.pins }) c.args.commons.now c.args.buffer c.commons.view_is c.requires.serves

pub invariant_of-self : goal.invariant_of-self
invariant_of-self g c =
    counted_pinned c.self.inside.owners _ c.self.inside.tables _ c.args.owner.number c.args.buffer c.self.invariant
    (subst (λ (t : ResourceState). 1 ≤ spare_of c.args.owner.number t) (sym c.self.view_is) c.requires.spare)
    c.requires.buffer c.pin.ensures.pinned c.remember.ensures.owners c.remember.ensures.next_owner c.remember.ensures.next_serial

pub returns-clause-balances : goal.returns-clause-balances
returns-clause-balances g c =
    let before : CommonState = record { kinds = c.commons.inside.kinds; locks = c.commons.inside.locks; pins = c.commons.inside.pins } in
    balances_pinned c.self.inside.owners c.remember.new.self c.self.inside.tables c.pin.new.self _ _ _ _ c.args.owner.number (record { kind = record { 0 = 1 }; key = c.args.buffer; serial = c.self.inside.owners.next_serial }) c.self.invariant (invariant_of-self g c)
    (subst (λ (t : ResourceState). 1 ≤ spare_of c.args.owner.number t) (sym c.self.view_is) c.requires.spare)
    (sym (ap owners_of c.self.view_is)) refl refl (λ kinds. record { kind = inl (record { from = omega arith; to = omega arith }); buffer = λ _. c.requires.buffer }) c.remember.ensures.owners
    (ap (λ (z : CommonState). z.kinds) c.commons.view_is)
    (pins_moved c.self.inside.tables.pins c.pin.new.self.pins before c.args.commons.now c.pin.new.shared c.commons.view_is c.pin.ensures.balance)
    (locks_moved (state_of c.self.inside.owners c.self.inside.tables.files c.self.inside.locks c.self.inside.tables.snapshots.stack c.self.inside.tables.plans) _ _ before _ _ c.self.view_is c.commons.view_is (LocksBalance-nothing c.self.inside.locks c.commons.inside.locks))

pub returns-clause-serves : goal.returns-clause-serves
returns-clause-serves g c = serves_still _ _ _ _ c.requires.serves (returns-clause-balances g c)

pub returns-clause-acted : goal.returns-clause-acted
returns-clause-acted g c =
    let was : ResourceState = state_of c.self.inside.owners c.self.inside.tables.files c.self.inside.locks c.self.inside.tables.snapshots.stack c.self.inside.tables.plans in
    let now : ResourceState = state_of c.remember.new.self c.pin.new.self.files c.self.inside.locks c.pin.new.self.snapshots.stack c.pin.new.self.plans in
    let before : CommonState = record { kinds = c.commons.inside.kinds; locks = c.commons.inside.locks; pins = c.commons.inside.pins } in
    let behind : CommonState = record { kinds = c.commons.inside.kinds; locks = c.commons.inside.locks; pins = c.pin.new.shared } in
    let says : List What → Type 0 = λ (events : List What). g.E.Emit.emits c.args.out.now events c.remember.new.out in
    subst (λ (a : ResourceState). Acted (item_taken c.args.owner.number buffer_pin c.args.buffer) a now c.args.commons.now behind says) c.self.view_is
    (subst (λ (z : CommonState). Acted (item_taken c.args.owner.number buffer_pin c.args.buffer) was now z behind says) c.commons.view_is
    (acted_pinned c.args.owner.number c.args.buffer was now before behind says c.remember.ensures.owners c.remember.ensures.next_owner c.remember.ensures.next_serial
    (record { recent = ap (λ (h : Held). h.files.recent) c.pin.ensures.pinned; descriptors = ap (λ (h : Held). h.files.descriptors) c.pin.ensures.pinned })
    (record { session = refl; locks = refl; stack = ap (λ (h : Held). h.snapshots.stack) c.pin.ensures.pinned; plans = ap (λ (h : Held). h.plans) c.pin.ensures.pinned }) refl refl
    (pins_counted c.self.inside.owners c.remember.new.self c.self.inside.tables c.pin.new.self before.pins behind.pins c.self.invariant (invariant_of-self g c) c.pin.ensures.balance)
    c.remember.ensures.emits))
