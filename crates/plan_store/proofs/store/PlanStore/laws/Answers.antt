use Rattle.std.proofs.Common.{◌≡◌, ℕ, length, nat_eq, subst}
use Rattle.std.specs.List.{list_any}
use Rattle.std.specs.Option.{is_some}
use Rattle.std.specs.Set.{distinct_count}
use Rattle.plan_store.specs.Plans.{Plans, plan_of}
use Rattle.plan_store.proofs.PlanCounts.{length_different}
use Rattle.plan_store.proofs.store.PlanStore.laws.Goals as goal

pub returns-clause-different : goal.returns-clause-different
returns-clause-different c = λ numbers.
    let P : Plans → Type 0 = λ t. ((q : ℕ) → list_any (nat_eq q) numbers ≡ is_some (plan_of t q)) → length t.standing ≡ distinct_count nat_eq numbers in
    subst P c.self.view_is (length_different c.self.inside.plans.plans numbers c.self.invariant.0.different)
