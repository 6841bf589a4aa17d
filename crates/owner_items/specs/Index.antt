-- Under which number an index has a kind and key.
use Rattle.std.specs.Prelude.{◌≡◌, ℕ, ◌+◌, ◌-◌, ◌*◌, ◌/◌, ◌%◌, ◌<◌, nat_lt, nat_le, Bool, true, false, not, ◌&&◌, ◌||◌, ◌==◌, if◌then◌else◌, List, [], ◌∷◌, length, slice_index_or, count_by, Option, None}
use Rattle.pgs_step.specs.declared.ids.KindId.{KindId}
use Rattle.owner_items.specs.declared.index.Slot.{Slot}

-- the slot is that of this kind and key
abbrev pub holds : KindId → ℕ → Slot → Bool
holds kind key slot = slot.used && ((slot.kind.0 == kind.0) && (slot.key == key))

-- the number of the newest live entry of this kind and key, if there is one
abbrev pub number_in : KindId → ℕ → List Slot → Option ℕ
number_in kind key [] = None
number_in kind key (slot ∷ slots) = (if holds kind key slot then slot.newest else number_in kind key slots)

-- how many slots are in use
abbrev pub used_in : List Slot → ℕ
used_in slots = count_by (λ slot. slot.used) slots

-- where the search for a kind and key begins, among this many slots
unfoldable pub start : ℕ → KindId → ℕ → ℕ
start slots kind key = (kind.0 * 40503 + key * 2654435769 / 65536) % slots

-- the place that is this many steps behind another, where the first place follows the last
abbrev pub place_after : ℕ → ℕ → ℕ → ℕ
place_after slots from steps = (if nat_lt (from + steps) slots then from + steps else from + steps - slots)

-- how many steps lead from a place to another
abbrev pub steps_to : ℕ → ℕ → ℕ → ℕ
steps_to slots from place = (if nat_le from place then place - from else place + slots - from)

-- the search for this kind and key ends here
abbrev pub ends : KindId → ℕ → Slot → Bool
ends kind key slot = not slot.used || ((slot.kind.0 == kind.0) && (slot.key == key))

-- the search for this kind and key passes these places, up to this many steps
abbrev pub Passes : KindId → ℕ → List Slot → ℕ → Type 0
Passes kind key slots steps =
    (t : ℕ) (d : Slot) → t < steps →
    ends kind key (slice_index_or slots (place_after (length slots) (start (length slots) kind key) t) d) ≡ false

-- the search for this kind and key ends at this place
pub record IsEnd (kind : KindId) (key : ℕ) (slots : List Slot) (place : ℕ) : Type 0 where
  pub within : place < length slots
  pub ends_here : (d : Slot) → ends kind key (slice_index_or slots place d) ≡ true
  pub passes : Passes kind key slots (steps_to (length slots) (start (length slots) kind key) place)

-- each slot in use is where the search for its kind and key ends
pub record IsIndex (slots : List Slot) (used : ℕ) : Type 0 where
  pub counted : used ≡ used_in slots
  pub reached :
      (place : ℕ) (d : Slot) → place < length slots → (slice_index_or slots place d).used ≡ true →
      Passes (slice_index_or slots place d).kind (slice_index_or slots place d).key slots
      (steps_to (length slots) (start (length slots) (slice_index_or slots place d).kind (slice_index_or slots place d).key) place)
