-- Which hooks ran, and in which space.
use Rattle.std.specs.Prelude.{ℕ, List, Option, refl}
use Rattle.std.specs.Coded.{Coded, code_by, coded×, coded_ℕ, coded_list, coded_option}
use Rattle.addr_space.specs.Space.{Region, Space}
use Rattle.reset_callbacks.specs.Hook.{Hook}
use Rattle.context_node.specs.Code.{hook_code}

-- the hooks, the newest first, as they were before they ran, and the space while they did
pub record Ran : Type 0 where
  pub hooks : List Hook
  pub space : Space

abbrev region_code : Coded Region
region_code =
    code_by (ℕ × List (Option ℕ)) (coded× coded_ℕ (coded_list (coded_option coded_ℕ)))
    (λ r. (r.account, r.bytes)) (λ p. record { account = p.0; bytes = p.1 }) (λ _. refl)

abbrev space_code : Coded Space
space_code =
    code_by (List (Option Region) × (List ℕ × ℕ)) (coded× (coded_list (coded_option region_code)) (coded× (coded_list coded_ℕ) coded_ℕ))
    (λ s. (s.regions, (s.taken, s.limit))) (λ p. record { regions = p.0; taken = p.1.0; limit = p.1.1 }) (λ _. refl)

abbrev pub ran_code : Coded Ran
ran_code =
    code_by (List Hook × Space) (coded× (coded_list hook_code) space_code) (λ r. (r.hooks, r.space)) (λ p. record { hooks = p.0; space = p.1 }) (λ _. refl)
