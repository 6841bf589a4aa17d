use Rattle.std.proofs.Common.{refl, ◌≡◌, true, arith, nat_eq, Some, sym, ◌∙◌}
use Rattle.std.specs.Map.{lookup}
use Rattle.plan_store.specs.declared.plan.Plan.{Plan}
use Rattle.plan_store.specs.Plans.{Plans, IsHeld}
use Rattle.plan_store.proofs.PlanLemmas.{are-replaced, are-removed, still-room, references-replaced, references-removed}
use Rattle.plan_store.proofs.PlanCounts.{refers_alike, gone_alike}
use Rattle.plan_store.proofs.store.PlanStore.discard.Goals as goal

pub invariant_of-self : goal.invariant_of-self
invariant_of-self c =
    let plans : Plans = record { standing = c.self.inside.plans.plans; reserved = c.self.inside.reserved } in
    let read : lookup (nat_eq c.args.plan) c.self.inside.plans.plans ≡ Some c.in-Some.kept = sym c.get.ensures ∙ c.in-Some.is in
    (rw c.remove.ensures.plans (are-removed plans c.args.plan c.self.invariant.0), still-room _ _ _ c.remove.ensures.room c.self.invariant.1)

pub returns-then-kept-eq0-clause-total : goal.returns-then-kept-eq0-clause-total
returns-then-kept-eq0-clause-total c =
    let plans : Plans = record { standing = c.self.inside.plans.plans; reserved = c.self.inside.reserved } in
    let read : lookup (nat_eq c.args.plan) c.self.inside.plans.plans ≡ Some c.in-Some.kept = sym c.get.ensures ∙ c.in-Some.is in
    let sums = references-removed plans c.args.plan c.in-Some.kept read in
    let none : c.in-Some.kept.references ≡ 0 = c.if-kept-eq0.true in
    rw (← c.self.view_is, c.remove.ensures.plans) (omega (arith, sums, none))

pub invariant_of-self-2 : goal.invariant_of-self-2
invariant_of-self-2 c =
    let plans : Plans = record { standing = c.self.inside.plans.plans; reserved = c.self.inside.reserved } in
    let read : lookup (nat_eq c.args.plan) c.self.inside.plans.plans ≡ Some c.in-Some.kept = sym c.get.ensures ∙ c.in-Some.is in
    let other : Plan = record c.in-Some.kept { discarded = true } in
    let held : IsHeld other = λ _. omega arith in
    (rw c.set.ensures.plans (are-replaced plans c.args.plan other held c.self.invariant.0), rw c.set.ensures.room c.self.invariant.1)

pub returns-clause-total : goal.returns-clause-total
returns-clause-total c =
    let plans : Plans = record { standing = c.self.inside.plans.plans; reserved = c.self.inside.reserved } in
    let read : lookup (nat_eq c.args.plan) c.self.inside.plans.plans ≡ Some c.in-Some.kept = sym c.get.ensures ∙ c.in-Some.is in
    let other : Plan = record c.in-Some.kept { discarded = true } in
    let sums = references-replaced plans c.args.plan c.in-Some.kept other read in
    rw (← c.self.view_is, c.set.ensures.plans) (omega (arith, sums))

pub returns-then-kept-eq0-clause-counts : goal.returns-then-kept-eq0-clause-counts
returns-then-kept-eq0-clause-counts c = λ q.
    let read : lookup (nat_eq c.args.plan) c.self.inside.plans.plans ≡ Some c.in-Some.kept = sym c.get.ensures ∙ c.in-Some.is in
    rw (← c.self.view_is, c.remove.ensures.plans) (gone_alike c.args.plan q c.self.inside.plans.plans c.in-Some.kept c.self.invariant.0.different read c.if-kept-eq0.true)

pub returns-clause-counts : goal.returns-clause-counts
returns-clause-counts c = λ q.
    let read : lookup (nat_eq c.args.plan) c.self.inside.plans.plans ≡ Some c.in-Some.kept = sym c.get.ensures ∙ c.in-Some.is in
    let other : Plan = record c.in-Some.kept { discarded = true } in
    rw (← c.self.view_is, c.set.ensures.plans) (refers_alike c.args.plan q c.self.inside.plans.plans c.in-Some.kept other read refl)
