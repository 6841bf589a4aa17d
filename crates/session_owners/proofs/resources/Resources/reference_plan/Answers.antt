use Rattle.session_owners.proofs.Base.{◌≤◌, ap, subst, sym, arith, inl, refl}
use Rattle.session_owners.proofs.Words.{plan_reference, AreLeft, ResourceState, owners_of, spare_of}
use Rattle.session_owners.proofs.Lemmas.{acted_referred, state_of, balances_same, balances_taken, locks_stay, counted_referred}
use Rattle.session_owners.proofs.resources.Resources.reference_plan.Goals as goal

pub invariant_of-self-2 : goal.invariant_of-self-2
invariant_of-self-2 g c =
    counted_referred c.self.inside.owners _ c.self.inside.tables c.reference_plan.new.self c.args.owner.number c.args.plan c.self.invariant
    (subst (λ (t : ResourceState). 1 ≤ spare_of c.args.owner.number t) (sym c.self.view_is) c.requires.spare)
    c.reference_plan.ensures.alone c.in_ok-reference_plan.ensures.counts c.in_ok-reference_plan.ensures.total c.remember.ensures.owners c.remember.ensures.next_owner c.remember.ensures.next_serial

pub returns-clause-balances : goal.returns-clause-balances
returns-clause-balances g c =
    λ commons. balances_taken c.self.inside.owners c.self.inside.tables _ _ commons c.args.owner.number (record { kind = plan_reference; key = c.args.plan; serial = c.self.inside.owners.next_serial }) c.self.invariant
    (subst (λ (t : ResourceState). 1 ≤ spare_of c.args.owner.number t) (sym c.self.view_is) c.requires.spare)
    (sym (ap owners_of c.self.view_is)) (omega arith) (λ e. omega (arith, e)) (λ kinds. record { kind = inl (record { from = omega arith; to = omega arith }); buffer = λ e. absurd (omega (arith, e)) }) c.remember.ensures.owners
    (locks_stay (state_of c.self.inside.owners c.self.inside.tables.files c.self.inside.locks c.self.inside.tables.snapshots.stack c.self.inside.tables.plans) _ _ commons.locks c.self.view_is refl)

pub returns-in_err-reference_plan-clause-balances : goal.returns-in_err-reference_plan-clause-balances
returns-in_err-reference_plan-clause-balances g c =
    λ commons. balances_same _ _ commons (ap owners_of c.self.view_is)
    (locks_stay (state_of c.self.inside.owners c.self.inside.tables.files c.self.inside.locks c.self.inside.tables.snapshots.stack c.self.inside.tables.plans) _ _ commons.locks c.self.view_is refl)

pub returns-clause-left : goal.returns-clause-left
returns-clause-left g c = subst (λ (r : ResourceState). AreLeft r.plans.standing c.reference_plan.new.self.plans.standing) c.self.view_is c.in_ok-reference_plan.ensures.left

pub returns-clause-acted : goal.returns-clause-acted
returns-clause-acted g c = grind (arith, state_of c.self.inside.owners c.self.inside.tables.files c.self.inside.locks c.self.inside.tables.snapshots.stack c.self.inside.tables.plans, state_of c.remember.new.self c.reference_plan.new.self.files c.self.inside.locks c.reference_plan.new.self.snapshots.stack c.reference_plan.new.self.plans, acted_referred c.args.owner.number c.args.plan, c.self.view_is, c.remember.ensures.owners, c.remember.ensures.next_owner, c.remember.ensures.next_serial, c.reference_plan.ensures.alone, c.in_ok-reference_plan.ensures.changed, c.remember.ensures.emits)
