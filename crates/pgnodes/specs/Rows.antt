-- The rows of an aggregate.
use Rattle.std.specs.Prelude.{ℕ, ◌+◌, ◌*◌, ◌%◌, List, [], ◌∷◌, map}
use Rattle.std.specs.List.{range_with_len}
use Rattle.agg_rules.specs.declared.Row.{Row}
use Rattle.pgnodes.specs.declared.lines.Aggregate.{Aggregate}

-- what a row has of its object, from which its group comes
abbrev pub value_of : ℕ → ℕ → ℕ
value_of object place = (31 * object + 7 * place) % 1000

-- the row of a place, counted from 0
abbrev pub row_made : Aggregate → ℕ → Row
row_made a place = record { group = value_of a.object place % a.groups; value = place }

-- all rows, in order
abbrev pub rows_made : Aggregate → List Row
rows_made a = map (row_made a) (range_with_len 0 a.rows)

-- four rows of two groups
abbrev pub four_rows_asked : Aggregate
four_rows_asked = record { object = 3; rows = 4; groups = 2; budget = 64 }

-- their groups, in the order of their first rows, each with its count and its sum
abbrev pub two_groups : List (ℕ × ℕ × ℕ)
two_groups = (1, 2, 2) ∷ (0, 2, 4) ∷ []
