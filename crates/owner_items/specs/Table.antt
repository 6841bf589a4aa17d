-- The older items of an owner, as its table has them.
use Rattle.std.specs.Prelude.{◌≡◌, ℕ, ◌<◌, Bool, true, ◌&&◌, if◌then◌else◌, List, [], ◌∷◌, length, reverse, Option, Some, None}
use Rattle.pgs_step.specs.declared.ids.KindId.{KindId}
use Rattle.pgs_step.specs.declared.ids.Item.{Item}
use Rattle.owner_items.specs.ItemList.{is_of}
use Rattle.owner_items.specs.Index.{IsIndex, number_in}
use Rattle.owner_items.specs.declared.index.Slot.{Slot}
use Rattle.owner_items.specs.declared.entry.Entry.{Entry}

-- Entries stand newest first here, and an entry's number is how many are older.

-- the items of the live entries
abbrev pub live_items : List Entry → List Item
live_items [] = []
live_items (entry ∷ older) = (if entry.live then entry.item ∷ live_items older else live_items older)

-- the number of the newest live entry whose item passes the test
abbrev pub newest_in : (Item → Bool) → List Entry → Option ℕ
newest_in test [] = None
newest_in test (entry ∷ older) = (if entry.live && test entry.item then Some (length older) else newest_in test older)

-- each live entry leads to the newest live one of its kind and key that is older
abbrev pub AreLinked : List Entry → Type 0
AreLinked [] = Unit {0}
AreLinked (entry ∷ older) =
    (entry.live ≡ true → entry.older ≡ newest_in (is_of entry.item.kind entry.item.key) older) × AreLinked older

-- what is true of a table: its links, its index, and how many entries are live
pub record IsTable (entries : List Entry) (live : ℕ) (slots : List Slot) (used : ℕ) : Type 0 where
  pub linked : AreLinked (reverse entries)
  pub indexed : IsIndex slots used
  pub numbers : (kind : KindId) (key : ℕ) → number_in kind key slots ≡ newest_in (is_of kind key) (reverse entries)
  pub counted : live ≡ length (live_items (reverse entries))
  pub roomy : 0 < length slots → used < length slots
