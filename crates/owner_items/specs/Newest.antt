-- Places in a list of items whose newest is the last.
use Rattle.std.specs.Prelude.{◌≡◌, ℕ, ◌<◌, Bool, true, false, List, length, slice_index_or, MatchOption, Option}
use Rattle.pgs_step.specs.declared.ids.Item.{Item}

-- the item at this place passes the test, and no later one does
pub record IsNewest (test : Item → Bool) (items : List Item) (place : ℕ) : Type 0 where
  pub within : place < length items
  pub passes : (d : Item) → test (slice_index_or items place d) ≡ true
  pub later : (k : ℕ) (d : Item) → place < k → k < length items → test (slice_index_or items k d) ≡ false

-- no item passes the test
abbrev pub NonePasses : (Item → Bool) → List Item → Type 0
NonePasses test items = (k : ℕ) (d : Item) → k < length items → test (slice_index_or items k d) ≡ false

-- the place of the newest item that passes the test, where one does
abbrev pub FindsNewest : (Item → Bool) → List Item → Option ℕ → Type 0
FindsNewest test items found = MatchOption found (NonePasses test items) (IsNewest test items)
