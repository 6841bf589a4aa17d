-- The plans of a session as the session's rules have them, and as a value.
use Rattle.std.specs.Prelude.{ℕ, List, Option, refl}
use Rattle.std.specs.Coded.{Coded, code_by, coded×, coded_ℕ, coded_list, coded_option}
use Rattle.plan_store.specs.Plans.{Plans}
use Rattle.plan_store.specs.declared.plan.Plan.{Plan}
use Rattle.plan_store.specs.contracts.plan.Plan as plan
use Rattle.session_rules.specs.State.{StandingPlan}

-- a plan that stands, by the number of its context
abbrev pub plan_state : ℕ × Plan → StandingPlan
plan_state plan = record { number = plan.0; context = plan.1.context.number; discarded = plan.1.discarded; references = plan.1.references }

-- the plans as a value
abbrev pub plans_code : Coded Plans
plans_code =
    code_by (List (ℕ × Plan) × Option ℕ) (coded× (coded_list (coded× coded_ℕ plan.the_row.coded)) (coded_option coded_ℕ))
    (λ p. (p.standing, p.reserved)) (λ p. record { standing = p.0; reserved = p.1 }) (λ _. refl)
