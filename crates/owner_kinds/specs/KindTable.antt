-- When the items of each kind are released.
use Rattle.std.specs.Prelude.{◌≡◌, ℕ, ◌-◌, ◌<◌, ◌≤◌, nat_lt, ◌==◌, ◌⊎◌, if◌then◌else◌, List, [], ◌∷◌, length, slice_get, All, Option, None}
use Rattle.std.specs.Option.{option_map}
use Rattle.pgs_step.specs.declared.ids.KindId.{KindId}
use Rattle.pgs_step.specs.declared.ids.Phase.{Phase}
use Rattle.pgs_step.specs.declared.ids.Phase.TheVariants.{BeforeLocks, AfterLocks}
use Rattle.owner_kinds.specs.Different.{AreDifferent}
use Rattle.owner_kinds.specs.Place.{IsPlace}
use Rattle.owner_kinds.specs.declared.kind_row.KindRow.{KindRow}

-- the names of the extension kinds, and when their items are released; the first of them is kind 16
pub record KindTable : Type 0 where
  pub names : List (List ℕ)
  pub rows : List KindRow

-- what is true of each shelf of kinds
pub record IsSound (table : KindTable) : Type 0 where
  pub different : AreDifferent table.names
  pub few : length table.names ≤ 16
  pub whole : length table.rows ≡ length table.names
  pub places : All IsPlace table.rows

abbrev pub row : Phase → ℕ → KindRow
row phase priority = record { phase = phase; priority = priority }

-- the kinds that are built in, the first of them kind 1
abbrev pub built_in_rows : List KindRow
built_in_rows =
    row BeforeLocks 200 ∷ row BeforeLocks 300 ∷ row AfterLocks 100 ∷ row AfterLocks 200 ∷ row AfterLocks 300
    ∷ row AfterLocks 400 ∷ row AfterLocks 500 ∷ row AfterLocks 600 ∷ []

-- the row of a kind, where it has one
unfoldable pub row_of : KindTable → KindId → Option KindRow
row_of table kind =
    (if nat_lt kind.0 16
    then (if kind.0 == 0 then None else slice_get built_in_rows (kind.0 - 1))
    else slice_get table.rows (kind.0 - 16))

-- the phase in which items of this kind are released
abbrev pub phase_of : KindTable → KindId → Option Phase
phase_of table kind = option_map (λ r. r.phase) (row_of table kind)

-- the place of this kind in its phase
abbrev pub priority_of : KindTable → KindId → Option ℕ
priority_of table kind = option_map (λ r. r.priority) (row_of table kind)

-- the kind is one of the extension kinds
pub record IsExtension (table : KindTable) (kind : KindId) : Type 0 where
  pub from : 16 ≤ kind.0
  pub named : kind.0 - 16 < length table.names
  pub placed : kind.0 - 16 < length table.rows

-- the kind is built in
pub record IsBuiltIn (kind : KindId) : Type 0 where
  pub from : 1 ≤ kind.0
  pub to : kind.0 ≤ 8

-- the kind is built in, or one of the extension kinds
abbrev pub IsKind : KindTable → KindId → Type 0
IsKind table kind = IsBuiltIn kind ⊎ IsExtension table kind
