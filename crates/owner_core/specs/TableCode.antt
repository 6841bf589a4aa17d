-- How a session's owners are stored as a value.
use Rattle.std.specs.Prelude.{ℕ, Bool, List, refl}
use Rattle.std.specs.Coded.{Coded, code_by, coded×, coded_ℕ, coded_bool, coded_list}
use Rattle.pgs_step.specs.declared.ids.Item.{Item}
use Rattle.forest.specs.Forest.{Forest}
use Rattle.forest.specs.Code.{forest_code}
use Rattle.owner_core.specs.Owners.{Owner, Roomy, OwnerTable}

abbrev pub item_code : Coded Item
item_code =
    code_by (ℕ × (ℕ × ℕ)) (coded× coded_ℕ (coded× coded_ℕ coded_ℕ))
    (λ i. (i.kind.0, (i.key, i.serial))) (λ p. record { kind = record { 0 = p.0 }; key = p.1.0; serial = p.1.1 }) (λ _. refl)

abbrev pub owner_code : Coded Owner
owner_code =
    code_by (Bool × List Item) (coded× coded_bool (coded_list item_code))
    (λ o. (o.begun, o.items)) (λ p. record { begun = p.0; items = p.1 }) (λ _. refl)

abbrev pub roomy_code : Coded Roomy
roomy_code =
    code_by (Owner × ℕ) (coded× owner_code coded_ℕ) (λ r. (r.owner, r.spare)) (λ p. record { owner = p.0; spare = p.1 }) (λ _. refl)

abbrev pub owner_table_code : Coded OwnerTable
owner_table_code =
    code_by (Forest Roomy × (Forest ℕ × (ℕ × ℕ))) (coded× (forest_code roomy_code) (coded× (forest_code coded_ℕ) (coded× coded_ℕ coded_ℕ)))
    (λ t. (t.rooms, (t.places, (t.next_owner, t.next_serial))))
    (λ p. record { rooms = p.0; places = p.1.0; next_owner = p.1.1.0; next_serial = p.1.1.1 }) (λ _. refl)
