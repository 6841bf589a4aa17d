use Rattle.session_owners.proofs.Base.{◌≡◌, ◌≤◌, ap, subst, sym, arith, inl, inr, refl}
use Rattle.session_owners.proofs.Words.{ResourceState, owners_of, spare_of, Plans, references}
use Rattle.session_owners.proofs.Lemmas.{counted_taken, acted_taken, state_of, balances_same, balances_taken, locks_stay}
use Rattle.session_owners.proofs.resources.Resources.add_reference.Goals as goal

pub invariant_of-self-2 : goal.invariant_of-self-2
invariant_of-self-2 g c =
    counted_taken c.self.inside.owners _ c.self.inside.tables _ c.args.owner.number c.args.class c.args.key c.self.invariant
    (subst (λ (t : ResourceState). 1 ≤ spare_of c.args.owner.number t) (sym c.self.view_is) c.requires.spare)
    (inr (inl c.requires.class)) c.add_reference.ensures.buffers c.add_reference.ensures.total
    (let same : references c.add_reference.new.self.plans ≡ references c.self.inside.tables.plans = ap (λ (p : Plans). references p) c.add_reference.ensures.plans in omega (arith, same)) (λ kind key low. c.in_ok-add_reference.ensures.counts kind key)
    c.remember.ensures.owners c.remember.ensures.next_owner c.remember.ensures.next_serial

pub returns-clause-balances : goal.returns-clause-balances
returns-clause-balances g c =
    λ commons. balances_taken c.self.inside.owners c.self.inside.tables _ _ commons c.args.owner.number (record { kind = c.args.class; key = c.args.key; serial = c.self.inside.owners.next_serial }) c.self.invariant
    (subst (λ (t : ResourceState). 1 ≤ spare_of c.args.owner.number t) (sym c.self.view_is) c.requires.spare)
    (sym (ap owners_of c.self.view_is)) (omega (arith, c.requires.class.to)) (λ e. omega (arith, e, c.requires.class.from)) (λ kinds. record { kind = inl (record { from = omega (arith, c.requires.class.from); to = c.requires.class.to }); buffer = λ e. absurd (omega (arith, e, c.requires.class.from)) }) c.remember.ensures.owners
    (locks_stay (state_of c.self.inside.owners c.self.inside.tables.files c.self.inside.locks c.self.inside.tables.snapshots.stack c.self.inside.tables.plans) _ _ commons.locks c.self.view_is refl)

pub returns-in_err-add_reference-clause-balances :
    goal.returns-in_err-add_reference-clause-balances
returns-in_err-add_reference-clause-balances g c =
    λ commons. balances_same _ _ commons (ap owners_of c.self.view_is)
    (locks_stay (state_of c.self.inside.owners c.self.inside.tables.files c.self.inside.locks c.self.inside.tables.snapshots.stack c.self.inside.tables.plans) _ _ commons.locks c.self.view_is refl)

pub returns-clause-acted : goal.returns-clause-acted
returns-clause-acted g c = grind (arith, state_of c.self.inside.owners c.self.inside.tables.files c.self.inside.locks c.self.inside.tables.snapshots.stack c.self.inside.tables.plans, state_of c.remember.new.self c.add_reference.new.self.files c.self.inside.locks c.add_reference.new.self.snapshots.stack c.add_reference.new.self.plans, acted_taken c.args.owner.number c.args.class c.args.key, c.self.view_is, c.requires.class.unkept, c.requires.class.from, c.remember.ensures.owners, c.remember.ensures.next_owner, c.remember.ensures.next_serial, c.add_reference.ensures.files, c.add_reference.ensures.stack, c.add_reference.ensures.plans, c.remember.ensures.emits)
