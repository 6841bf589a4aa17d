-- The items of an owner in memory, and what they stand for.
use Rattle.std.specs.Prelude.{◌≡◌, ℕ, ◌+◌, ◌-◌, ◌<◌, ◌≤◌, nat_le, Bool, true, false, length, slice_index_or, if◌then◌else◌, List, [], ◌∷◌, ◌++◌, reverse, All, None}
use Rattle.pgs_step.specs.declared.ids.Phase.{Phase}
use Rattle.pgs_step.specs.declared.ids.Item.{Item}
use Rattle.owner_kinds.specs.KindTable.{KindTable}
use Rattle.owner_kinds.specs.declared.kind_row.KindRow.{KindRow}
use Rattle.owner_items.specs.Next.{is_of_phase, priority}
use Rattle.owner_items.specs.Table.{live_items}
use Rattle.owner_items.specs.declared.entry.Entry.{Entry}
use Rattle.owner_items.specs.declared.ranking.TheConstants.{LAST_PRIORITY}

-- the item put in front of the first that is no newer
abbrev pub with_newer : Item → List Item → List Item
with_newer item [] = item ∷ []
with_newer item (x ∷ xs) = (if nat_le x.serial item.serial then item ∷ x ∷ xs else x ∷ with_newer item xs)

-- the items by falling serial
abbrev pub newest_first : List Item → List Item
newest_first [] = []
newest_first (item ∷ items) = with_newer item (newest_first items)

-- the items of an array and of a table, whose newest are the last
abbrev pub all_items : List Item → List Entry → List Item
all_items recent entries = reverse recent ++ live_items (reverse entries)

-- how late an item of the phase stands in the order of its release, from its end; 0 for other items
abbrev pub rank : KindTable → Phase → Item → ℕ
rank table phase item = (if is_of_phase table phase item then 1 + (LAST_PRIORITY - priority table item) else 0)

-- when the items of each kind are released, without the kinds' names
abbrev pub table_from : List KindRow → KindTable
table_from rows = record { names = []; rows = rows }

-- the item is released before another, or both are not of the phase
pub record GoesFirst (rank : Item → ℕ) (item other : Item) : Type 0 where
  pub higher : rank other ≤ rank item
  pub newer : rank other ≡ rank item → other.serial ≤ item.serial

-- all entries are live, and each goes before those behind it
abbrev pub IsInOrder : (Item → ℕ) → List Entry → Type 0
IsInOrder rank [] = Unit {0}
IsInOrder rank (entry ∷ entries) =
    (entry.live ≡ true) × All (λ other. GoesFirst rank entry.item other.item) entries × IsInOrder rank entries

-- the entry of an item that is put at the end of gathered items
abbrev pub entry_with : Item → Entry
entry_with item = record { item = item; older = None; live = true }

-- no entry's item passes the test
abbrev pub NoneOf : (Item → Bool) → List Entry → Type 0
NoneOf test entries = All (λ entry. test entry.item ≡ false) entries

-- of the entries whose items pass the test the one at this place has the greatest serial
pub record IsNewestOf (test : Item → Bool) (entries : List Entry) (place : ℕ) : Type 0 where
  pub within : place < length entries
  pub passes : (d : Entry) → test (slice_index_or entries place d).item ≡ true
  pub newest :
      (d : Entry) →
      All (λ entry. test entry.item ≡ true → entry.item.serial ≤ (slice_index_or entries place d).item.serial) entries
