-- The parts in which an owner's items are kept.
use Rattle.std.specs.Prelude.{◌≡◌, ℕ, ◌+◌, ◌-◌, ◌≤◌, nat_le, true, if◌then◌else◌, List, [], length, reverse, vec_len, vec_capacity, Option, Some, None, IsSome, ◌<◌, All}
use Rattle.pgs_step.specs.declared.ids.Phase.{Phase}
use Rattle.pgs_step.specs.declared.ids.Item.{Item}
use Rattle.owner_kinds.specs.KindTable.{KindTable}
use Rattle.owner_items.specs.ItemList.{AreFalling}
use Rattle.owner_items.specs.Next.{is_of_phase, priority}
use Rattle.owner_items.specs.Table.{live_items, IsTable}
use Rattle.owner_items.specs.Gathered.{with_newer, newest_first, all_items, rank, table_from, GoesFirst, IsInOrder}
use Rattle.owner_items.specs.declared.entry.Entry.{Entry}
use Rattle.owner_items.specs.declared.index.Slot.{Slot}
use Rattle.owner_items.specs.declared.ranking.Order.{Order}
use Rattle.owner_items.specs.declared.held.Held.{Held}
use Rattle.owner_items.specs.declared.ranking.TheConstants.{LAST_PRIORITY}

-- all items are in the table, in the order of a release
pub record IsReady (table : KindTable) (phase : Phase) (recent : List Item) (entries : List Entry) : Type 0 where
  pub none_recent : recent ≡ []
  pub in_order : IsInOrder (rank table phase) (reverse entries)

-- the newest items are in the array, and the others in a table with an index
pub record IsTwoPart (recent : List Item) (entries : List Entry) (live : ℕ) (slots : List Slot) (used : ℕ) : Type 0 where
  pub falling : AreFalling (all_items recent entries)
  pub table : IsTable entries live slots used

-- the items are in two parts, or gathered in an order
abbrev pub InState : Option Order → List Item → List Entry → ℕ → List Slot → ℕ → Type 0
InState None recent entries live slots used = IsTwoPart recent entries live slots used
InState (Some order) recent entries live slots used = IsReady (table_from order.rows.items) order.phase recent entries

-- the items, newest first
abbrev pub items_of : Held → List Item
items_of h = newest_first (all_items h.recent.items h.table.entries.items)

-- how many more items have room: none where they are gathered
abbrev pub spare_in : Option Order → ℕ → ℕ → ℕ → ℕ
spare_in None recent entries capacity = (if nat_le (entries + 32) capacity then 32 - recent else 0)
spare_in (Some order) recent entries capacity = 0

abbrev pub spare_of : Held → ℕ
spare_of h = spare_in h.order (length h.recent.items) (vec_len h.table.entries) (vec_capacity h.table.entries)

-- what is true of the parts
pub record IsHeld (h : Held) : Type 0 where
  pub falling : AreFalling (items_of h)
  pub counted : h.table.live ≡ length (live_items (reverse h.table.entries.items))
  pub few : length h.recent.items ≤ 32
  pub room : vec_len h.table.entries + length h.recent.items ≤ vec_capacity h.table.entries
  pub state : InState h.order h.recent.items h.table.entries.items h.table.live h.table.index.slots.items h.table.index.used

-- the item is the next of its phase, and these are the others
pub record IsNextOf (table : KindTable) (phase : Phase) (old : List Item) (item : Item) (new : List Item) : Type 0 where
  pub taken : old ≡ with_newer item new
  pub passes : is_of_phase table phase item ≡ true
  pub low : priority table item ≤ LAST_PRIORITY
  pub first : All (GoesFirst (rank table phase) item) new

-- all items are gathered in the order of this phase's release
pub record IsGathered (table : KindTable) (phase : Phase) (h : Held) : Type 0 where
  pub some : IsSome h.order
  pub ready : IsReady table phase h.recent.items h.table.entries.items

-- the items are in two parts, and the table has room for those of the array and 32 more
pub record HasRoom (h : Held) : Type 0 where
  pub parted : h.order ≡ None
  pub entries : vec_len h.table.entries + 64 ≤ vec_capacity h.table.entries
  pub slots : h.table.index.used + 32 < length h.table.index.slots.items
