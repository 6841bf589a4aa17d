-- The rows of a pass that lie in its file.
use Rattle.std.specs.Prelude.{◌≡◌, ◌↔◌, ℕ, List, [], Option, Some, None}
use Rattle.temp_store.specs.Temp.{Temp, file_at}
use Rattle.agg_rules.specs.declared.Row.{Row}
use Rattle.row_files.specs.RowBytes.{HasRows}

-- the file has these rows, and where there is none there are no rows
pub record Spilled (temp : Temp) (file : Option ℕ) (rows : List Row) : Type 0 where
  pub rows_in_file : (number : ℕ) → file ≡ Some number → HasRows temp number rows
  pub none : file ≡ None → rows ≡ []

-- a file is the one that there is
abbrev pub IsOf : Option ℕ → ℕ → Type 0
IsOf file number = file ≡ Some number

-- a store went from one value to another, and what is a node's own in it from some files to others: every other file is
-- as it was, and there is no other one
abbrev pub KeepsFiles : (ℕ → Type 0) → Temp → (ℕ → Type 0) → Temp → Type 0
KeepsFiles own s owns t = (number : ℕ) (bytes : List ℕ) → ((file_at s number ≡ Some bytes) × (own number → ⊥)) ↔ ((file_at t number ≡ Some bytes) × (owns number → ⊥))
