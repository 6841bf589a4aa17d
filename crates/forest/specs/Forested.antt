-- What an arena is seen as.
use Rattle.std.specs.Prelude.{◌≡◌, ℕ, Option, Some, None, MatchOption, refl}
use Rattle.std.specs.Coded.{Coded, code_by, coded×, coded_ℕ}
use Rattle.forest.specs.Forest.{Forest, at}
use Rattle.forest.specs.Code.{forest_code}
use Rattle.forest.specs.declared.id.NodeId.{NodeId}

-- a forest by numbers, beside it the same forest with the slot of each node in place of its data, and the slot that the
-- next node gets
pub record Forested (T : Type 0) : Type 0 where
  pub forest : Forest T
  pub places : Forest ℕ
  pub vacant : ℕ

abbrev pub forested_code : {T : Type 0} → Coded T → Coded (Forested T)
forested_code {T} code =
    code_by (Forest T × (Forest ℕ × ℕ)) (coded× (forest_code code) (coded× (forest_code coded_ℕ) coded_ℕ))
    (λ f. (f.forest, (f.places, f.vacant))) (λ p. record { forest = p.0; places = p.1.0; vacant = p.1.1 }) (λ _. refl)

-- the node of this number lies at this slot
abbrev pub IsPlaced : {T : Type 0} → Forested T → NodeId → Type 0
IsPlaced f id = at id.number f.places ≡ Some id.slot

-- the node that lies at a place is that of this number, or there is neither
abbrev pub Named : {T : Type 0} → Forested T → Option NodeId → Option ℕ → Type 0
Named f id number = MatchOption id (number ≡ None) (λ id. (number ≡ Some id.number) × IsPlaced f id)
