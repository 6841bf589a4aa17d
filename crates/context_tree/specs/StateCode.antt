-- How a tree of contexts is stored as a value.
use Rattle.std.specs.Prelude.{ℕ, refl}
use Rattle.std.specs.Coded.{Coded, code_by, coded×, coded_ℕ}
use Rattle.forest.specs.Forest.{Forest}
use Rattle.forest.specs.Code.{forest_code}
use Rattle.context_node.specs.Kept.{Kept}
use Rattle.context_node.specs.Code.{kept_code}
use Rattle.context_tree.specs.State.{TreeState}

abbrev pub tree_code : Coded TreeState
tree_code =
    code_by (Forest Kept × (Forest ℕ × (ℕ × ((ℕ × ℕ) × ℕ))))
    (coded× (forest_code kept_code) (coded× (forest_code coded_ℕ) (coded× coded_ℕ (coded× (coded× coded_ℕ coded_ℕ) coded_ℕ))))
    (λ t. (t.kept, (t.places, (t.account, ((t.current.number, t.current.slot), t.next)))))
    (λ p. record { kept = p.0; places = p.1.0; account = p.1.1.0; current = record { number = p.1.1.1.0.0; slot = p.1.1.1.0.1 }; next = p.1.1.1.1 })
    (λ _. refl)
