-- In which order the items of a phase are released.
use Rattle.std.specs.Prelude.{ℕ, Bool, true, false, not, nat_le, unwrap_or, if◌then◌else◌, List, [], ◌∷◌, filter}
use Rattle.std.specs.Option.{option_map}
use Rattle.pgs_step.specs.declared.ids.Phase.{Phase}
use Rattle.pgs_step.specs.declared.ids.Phase.TheVariants.{BeforeLocks, Locks, AfterLocks}
use Rattle.pgs_step.specs.declared.ids.Item.{Item}
use Rattle.owner_kinds.specs.KindTable.{KindTable, phase_of, priority_of}

abbrev pub is_phase : Phase → Phase → Bool
is_phase BeforeLocks BeforeLocks = true
is_phase Locks Locks = true
is_phase AfterLocks AfterLocks = true
is_phase a b = false

-- items of this item's kind are released in this phase
abbrev pub is_of_phase : KindTable → Phase → Item → Bool
is_of_phase table phase item = unwrap_or (option_map (is_phase phase) (phase_of table item.kind)) false

-- the place of this item's kind in its phase
abbrev pub priority : KindTable → Item → ℕ
priority table item = unwrap_or (priority_of table item.kind) 0

-- the item put in front of the first that has no lower rank
abbrev pub with_item : (Item → ℕ) → Item → List Item → List Item
with_item rank item [] = item ∷ []
with_item rank item (x ∷ xs) = (if nat_le (rank item) (rank x) then item ∷ x ∷ xs else x ∷ with_item rank item xs)

-- the items by rising rank; those of one rank stay as they stand
abbrev pub by_rank : (Item → ℕ) → List Item → List Item
by_rank rank [] = []
by_rank rank (item ∷ items) = with_item rank item (by_rank rank items)

-- the items that a phase releases of these, which stand newest first, in the order in which it does: by
-- rising priority number, and among equals the newest first
abbrev pub release_order : KindTable → Phase → List Item → List Item
release_order table phase items = by_rank (priority table) (filter (is_of_phase table phase) items)

-- the items that the phase leaves
abbrev pub items_left : KindTable → Phase → List Item → List Item
items_left table phase items = filter (λ item. not (is_of_phase table phase item)) items
