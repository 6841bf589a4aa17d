-- The plans of a session.
use Rattle.std.specs.Prelude.{◌≡◌, ℕ, ◌+◌, ◌<◌, ◌≤◌, ◌==◌, if◌then◌else◌, Bool, true, false, not, nat_eq, List, length, All, sum_by, Option, None, IfSome}
use Rattle.std.specs.Option.{option_map_or}
use Rattle.std.specs.List.{IsDistinct}
use Rattle.std.specs.Map.{keys_of, values_of, lookup}
use Rattle.plan_store.specs.declared.plan.Plan.{Plan}

-- the plans that stand, each with its number, in the order in which they were made, and for which number room is reserved
pub record Plans : Type 0 where
  pub standing : List (ℕ × Plan)
  pub reserved : Option ℕ

-- the plan of that number, where one stands
abbrev pub plan_of : Plans → ℕ → Option Plan
plan_of plans number = lookup (nat_eq number) plans.standing

-- how many references to the plan of that number are held
abbrev pub references_to : Plans → ℕ → ℕ
references_to plans number = option_map_or (λ plan. plan.references) (plan_of plans number) 0

-- one more reference to the plan is held, and to every other as many as before
abbrev pub RefersOneMore : Plans → Plans → ℕ → Type 0
RefersOneMore old new number = (q : ℕ) → references_to new q ≡ references_to old q + (if number == q then 1 else 0)

-- one reference less to the plan is held, and to every other as many as before
abbrev pub RefersOneLess : Plans → Plans → ℕ → Type 0
RefersOneLess old new number = (q : ℕ) → references_to new q + (if number == q then 1 else 0) ≡ references_to old q

-- as many references to each plan are held as before
abbrev pub RefersAlike : Plans → Plans → Type 0
RefersAlike old new = (q : ℕ) → references_to new q ≡ references_to old q

-- whether a plan of that number stands that isn't discarded
abbrev pub is_usable : Plans → ℕ → Bool
is_usable plans number = option_map_or (λ plan. not plan.discarded) (plan_of plans number) false

-- how many references are held to all plans
abbrev pub references : Plans → ℕ
references plans = sum_by (λ plan. plan.references) (values_of plans.standing)

-- a plan that was discarded stands because a reference to it is held
abbrev pub IsHeld : Plan → Type 0
IsHeld plan = plan.discarded ≡ true → 1 ≤ plan.references

-- The numbers differ, there are at most 1,024 plans, each discarded one is held, and room is reserved for a new one alone.
pub record ArePlans (plans : Plans) : Type 0 where
  pub different : IsDistinct nat_eq (keys_of plans.standing)
  pub few : length plans.standing ≤ 1024
  pub held : All IsHeld (values_of plans.standing)
  pub new : IfSome plans.reserved (λ number. plan_of plans number ≡ None)
  pub room : IfSome plans.reserved (λ number. length plans.standing < 1024)
