-- How rows lie in a temporary file.
use Rattle.std.specs.Prelude.{◌≡◌, ℕ, ◌^◌, ◌<◌, List, ◌++◌, Some, All}
use Rattle.std.specs.List.{flat_map}
use Rattle.std.specs.Int.{to_le_bytes, w32}
use Rattle.temp_store.specs.Temp.{Temp, file_at}
use Rattle.agg_rules.specs.declared.Row.{Row}

-- the numbers of a row fit 32 bits
abbrev pub IsRow : Row → Type 0
IsRow row = (row.group < 2 ^ 32) × (row.value < 2 ^ 32)

-- the eight bytes of a row: its group and its value, the lowest byte of each first
unfoldable pub row_bytes : Row → List ℕ
row_bytes row = to_le_bytes w32 row.group ++ to_le_bytes w32 row.value

-- a file has these rows, one after another
pub record HasRows (temp : Temp) (file : ℕ) (rows : List Row) : Type 0 where
  pub bytes : file_at temp file ≡ Some (flat_map row_bytes rows)
  pub numbers : All IsRow rows
