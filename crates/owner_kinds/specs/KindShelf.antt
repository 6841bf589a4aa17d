-- What a shelf of kinds stands for: the list of its kinds, the first of them kind 16.
use Rattle.std.specs.Prelude.{◌≡◌, ℕ, ◌-◌, nat_lt, ◌==◌, ◌&&◌, if◌then◌else◌, List, map, slice_get, Option, Some, None}
use Rattle.pgs_step.specs.declared.ids.KindId.{KindId}
use Rattle.owner_kinds.specs.Kind.{Kind, times}
use Rattle.owner_kinds.specs.KindTable.{KindTable, IsSound, row}
use Rattle.owner_kinds.specs.declared.kind_row.KindRow.{KindRow}

-- the names of the kinds, and when their items are released
abbrev pub table_of : List Kind → KindTable
table_of kinds = record { names = map (λ k. k.name) kinds; rows = map (λ k. row k.phase k.priority) kinds }

-- what a shelf keeps beside its kinds is their table, which is sound
pub record IsShelf (names : List (List ℕ)) (rows : List KindRow) (kinds : List Kind) : Type 0 where
  pub names_are : names ≡ (table_of kinds).names
  pub rows_are : rows ≡ (table_of kinds).rows
  pub sound : IsSound (table_of kinds)

-- the kind of the list that has this number
abbrev pub kind_at : List Kind → KindId → Option Kind
kind_at kinds kind = (if nat_lt kind.0 16 then None else slice_get kinds (kind.0 - 16))

abbrev pub times_in : ℕ → Option Kind → ℕ
times_in key None = 0
times_in key (Some k) = times key k.held

-- how often the kind of this number holds a key
unfoldable pub times_held : List Kind → KindId → ℕ → ℕ
times_held kinds kind key = times_in key (kind_at kinds kind)

-- 1 for this kind and key, and 0 for all others
abbrev pub one_at : KindId → ℕ → KindId → ℕ → ℕ
one_at kind key other q = (if (other.0 == kind.0) && (q == key) then 1 else 0)
