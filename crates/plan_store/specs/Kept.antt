-- The plans of a store, as they are kept.
use Rattle.std.specs.Prelude.{◌≡◌, ℕ, nat_eq, List}
use Rattle.std.specs.List.{IsDistinct}
use Rattle.std.specs.Map.{keys_of, lookup}
use Rattle.plan_store.specs.declared.plan.Plan.{Plan}

-- the plans that stand, each behind its number, in the order in which they were made, and how many more there is room for
pub record KeptPlans : Type 0 where
  pub plans : List (ℕ × Plan)
  pub room : ℕ

-- the numbers differ, and what is found by a number is the plan of that number
pub record IsKept (found plans : List (ℕ × Plan)) : Type 0 where
  pub different : IsDistinct nat_eq (keys_of plans)
  pub same : (number : ℕ) → lookup (nat_eq number) found ≡ lookup (nat_eq number) plans
