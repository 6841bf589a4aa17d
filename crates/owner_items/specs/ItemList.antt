-- The items that an owner remembers.
use Rattle.std.specs.Prelude.{ℕ, ◌<◌, Bool, ◌&&◌, ◌==◌, if◌then◌else◌, List, [], ◌∷◌, All, count_by}
use Rattle.pgs_step.specs.declared.ids.KindId.{KindId}
use Rattle.pgs_step.specs.declared.ids.Item.{Item}

-- the items, newest first, and how many more may be remembered without memory
pub record ItemList : Type 0 where
  pub items : List Item
  pub spare : ℕ

-- each serial is greater than those behind it
abbrev pub AreFalling : List Item → Type 0
AreFalling [] = Unit {0}
AreFalling (item ∷ items) = All (λ other. other.serial < item.serial) items × AreFalling items

-- the item is of this kind and has this key
abbrev pub is_of : KindId → ℕ → Item → Bool
is_of kind key item = (item.kind.0 == kind.0) && (item.key == key)

-- the items without the newest of those that pass the test
abbrev pub without_newest : (Item → Bool) → List Item → List Item
without_newest test [] = []
without_newest test (item ∷ items) = (if test item then items else item ∷ without_newest test items)

-- the items without the one of this serial
abbrev pub without_serial : ℕ → List Item → List Item
without_serial serial items = without_newest (λ item. item.serial == serial) items

-- how many items are of this kind and key
abbrev pub uses : KindId → ℕ → List Item → ℕ
uses kind key items = count_by (is_of kind key) items
