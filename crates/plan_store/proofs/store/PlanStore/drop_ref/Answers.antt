use Rattle.std.proofs.Common.{◌-◌, inl, inr, arith, ◌≡◌, nat_eq, Some, sym, ◌∙◌}
use Rattle.std.specs.Map.{lookup}
use Rattle.plan_store.specs.declared.plan.Plan.{Plan}
use Rattle.plan_store.specs.Plans.{Plans, IsHeld}
use Rattle.plan_store.proofs.PlanLemmas.{are-replaced, are-removed, still-room, references-replaced, references-removed}
use Rattle.plan_store.proofs.PlanCounts.{refers_less, gone_less}
use Rattle.plan_store.proofs.store.PlanStore.drop_ref.Goals as goal

pub invariant_of-self : goal.invariant_of-self
invariant_of-self c =
    let plans : Plans = record { standing = c.self.inside.plans.plans; reserved = c.self.inside.reserved } in
    let read : lookup (nat_eq c.args.plan) c.self.inside.plans.plans ≡ Some c.in-Some.kept = sym c.get.ensures ∙ c.in-Some.is in
    (rw c.remove.ensures.plans (are-removed plans c.args.plan c.self.invariant.0), still-room _ _ _ c.remove.ensures.room c.self.invariant.1)

pub returns-then-left-eq0-clause-total : goal.returns-then-left-eq0-clause-total
returns-then-left-eq0-clause-total c =
    let plans : Plans = record { standing = c.self.inside.plans.plans; reserved = c.self.inside.reserved } in
    let read : lookup (nat_eq c.args.plan) c.self.inside.plans.plans ≡ Some c.in-Some.kept = sym c.get.ensures ∙ c.in-Some.is in
    let sums = references-removed plans c.args.plan c.in-Some.kept read in
    rw (← c.self.view_is, c.remove.ensures.plans) (omega (arith, sums))

pub invariant_of-self-2 : goal.invariant_of-self-2
invariant_of-self-2 c =
    let plans : Plans = record { standing = c.self.inside.plans.plans; reserved = c.self.inside.reserved } in
    let read : lookup (nat_eq c.args.plan) c.self.inside.plans.plans ≡ Some c.in-Some.kept = sym c.get.ensures ∙ c.in-Some.is in
    let other : Plan = record c.in-Some.kept { references = c.in-Some.kept.references - 1 } in
    let held : IsHeld other = λ discarded. elim c.else-kept.either [ inl h ↦ omega (arith, h.1, c.if-kept-eq0.false) | inr h ↦ absurd (cc) ] in
    (rw c.set.ensures.plans (are-replaced plans c.args.plan other held c.self.invariant.0), rw c.set.ensures.room c.self.invariant.1)

pub returns-clause-total : goal.returns-clause-total
returns-clause-total c =
    let plans : Plans = record { standing = c.self.inside.plans.plans; reserved = c.self.inside.reserved } in
    let read : lookup (nat_eq c.args.plan) c.self.inside.plans.plans ≡ Some c.in-Some.kept = sym c.get.ensures ∙ c.in-Some.is in
    let other : Plan = record c.in-Some.kept { references = c.in-Some.kept.references - 1 } in
    let sums = references-replaced plans c.args.plan c.in-Some.kept other read in
    rw (← c.self.view_is, c.set.ensures.plans) (omega (arith, sums))

pub returns-then-left-eq0-clause-counts : goal.returns-then-left-eq0-clause-counts
returns-then-left-eq0-clause-counts c = λ q.
    let read : lookup (nat_eq c.args.plan) c.self.inside.plans.plans ≡ Some c.in-Some.kept = sym c.get.ensures ∙ c.in-Some.is in
    rw (← c.self.view_is, c.remove.ensures.plans) (gone_less c.args.plan q c.self.inside.plans.plans c.in-Some.kept c.self.invariant.0.different read (omega arith))

pub returns-clause-counts : goal.returns-clause-counts
returns-clause-counts c = λ q.
    let read : lookup (nat_eq c.args.plan) c.self.inside.plans.plans ≡ Some c.in-Some.kept = sym c.get.ensures ∙ c.in-Some.is in
    let other : Plan = record c.in-Some.kept { references = c.in-Some.kept.references - 1 } in
    rw (← c.self.view_is, c.set.ensures.plans) (refers_less c.args.plan q c.self.inside.plans.plans c.in-Some.kept other read (omega arith))
