use Rattle.std.specs.Prelude.{ℕ, List, refl}
use Rattle.std.specs.Coded.{Coded, code_by, coded×, coded_ℕ, coded_list}
use Rattle.plan_store.specs.declared.plan.Plan.{Plan}
use Rattle.plan_store.specs.contracts.plan.Plan as plan
use Rattle.plan_store.specs.Kept.{KeptPlans}

abbrev pub plans_code : Coded (List (ℕ × Plan))
plans_code = coded_list (coded× coded_ℕ plan.the_row.coded)

abbrev pub kept_code : Coded KeptPlans
kept_code = code_by (List (ℕ × Plan) × ℕ) (coded× plans_code coded_ℕ) (λ k. (k.plans, k.room)) (λ p. record { plans = p.0; room = p.1 }) (λ _. refl)
