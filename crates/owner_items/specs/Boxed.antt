-- The items of an owner, which lie in a box once there is room for any.
use Rattle.std.specs.Prelude.{[], Box, Option, Some, None, IfSome}
use Rattle.owner_items.specs.ItemList.{ItemList}
use Rattle.owner_items.specs.Held.{IsHeld, items_of, spare_of}
use Rattle.owner_items.specs.declared.held.Held.{Held}
use Rattle.std.specs.Global.{Global}

-- what is seen of them: nothing, and no room, where there is no box
abbrev pub list_in : Option (Box Held Global) → ItemList
list_in None = record { items = []; spare = 0 }
list_in (Some b) = record { items = items_of b.value; spare = spare_of b.value }

abbrev pub IsSound : Option (Box Held Global) → Type 0
IsSound held = IfSome held (λ b. IsHeld b.value)
