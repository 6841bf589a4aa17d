use Rattle.std.proofs.Common.{refl, ◌+◌, ◌<◌, ◌^◌, subst, sym, arith, ◌≡◌, nat_eq, Some, ◌∙◌}
use Rattle.std.specs.Map.{lookup}
use Rattle.plan_store.specs.declared.plan.Plan.{Plan}
use Rattle.plan_store.specs.Plans.{Plans, references, IsHeld}
use Rattle.plan_store.proofs.PlanLemmas.{are-replaced, references-replaced, references-removed}
use Rattle.plan_store.proofs.PlanCounts.{refers_more}
use Rattle.plan_store.proofs.store.PlanStore.add_ref.Goals as goal

pub overflow_add-changed : goal.overflow_add-changed
overflow_add-changed c =
    let plans : Plans = record { standing = c.self.inside.plans.plans; reserved = c.self.inside.reserved } in
    let read : lookup (nat_eq c.args.plan) c.self.inside.plans.plans ≡ Some c.in-Some.kept = sym c.get.ensures ∙ c.in-Some.is in
    let sums = references-removed plans c.args.plan c.in-Some.kept read in
    let room : references plans < 2 ^ 62 = subst (λ v. references v < 2 ^ 62) (sym c.self.view_is) c.requires.room in
    omega (arith, sums, room)

pub invariant_of-self : goal.invariant_of-self
invariant_of-self c =
    let plans : Plans = record { standing = c.self.inside.plans.plans; reserved = c.self.inside.reserved } in
    let read : lookup (nat_eq c.args.plan) c.self.inside.plans.plans ≡ Some c.in-Some.kept = sym c.get.ensures ∙ c.in-Some.is in
    let other : Plan = record c.in-Some.kept { references = c.in-Some.kept.references + 1 } in
    let held : IsHeld other = λ _. omega arith in
    (rw c.set.ensures.plans (are-replaced plans c.args.plan other held c.self.invariant.0), rw c.set.ensures.room c.self.invariant.1)

pub returns-clause-total : goal.returns-clause-total
returns-clause-total c =
    let plans : Plans = record { standing = c.self.inside.plans.plans; reserved = c.self.inside.reserved } in
    let read : lookup (nat_eq c.args.plan) c.self.inside.plans.plans ≡ Some c.in-Some.kept = sym c.get.ensures ∙ c.in-Some.is in
    let other : Plan = record c.in-Some.kept { references = c.in-Some.kept.references + 1 } in
    let sums = references-replaced plans c.args.plan c.in-Some.kept other read in
    rw (← c.self.view_is, c.set.ensures.plans) (omega (arith, sums))

pub returns-clause-counts : goal.returns-clause-counts
returns-clause-counts c = λ q.
    let read : lookup (nat_eq c.args.plan) c.self.inside.plans.plans ≡ Some c.in-Some.kept = sym c.get.ensures ∙ c.in-Some.is in
    let other : Plan = record c.in-Some.kept { references = c.in-Some.kept.references + 1 } in
    rw (← c.self.view_is, c.set.ensures.plans) (refers_more c.args.plan q c.self.inside.plans.plans c.in-Some.kept other read refl)
