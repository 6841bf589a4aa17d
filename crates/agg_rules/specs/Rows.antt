-- What a hash aggregate gives of its rows.
use Rattle.std.specs.Prelude.{ℕ, Bool, not, nat_eq, List, [], ◌∷◌, length, map, filter, sum_by}
use Rattle.agg_rules.specs.declared.Row.{Row}

-- the group is another one
abbrev pub is_other : ℕ → ℕ → Bool
is_other group other = not (nat_eq group other)

-- the groups of rows, each once, in the order of their first rows
abbrev pub groups_of : List Row → List ℕ
groups_of [] = []
groups_of (row ∷ rows) = row.group ∷ filter (is_other row.group) (groups_of rows)

-- the rows of a group
abbrev pub rows_of : ℕ → List Row → List Row
rows_of group rows = filter (λ (row : Row). nat_eq row.group group) rows

-- what is given of a group: how many rows it has, and the sum of their values
abbrev pub result_of : List Row → ℕ → ℕ × ℕ × ℕ
result_of rows group = (group, length (rows_of group rows), sum_by (λ (row : Row). row.value) (rows_of group rows))

-- what is given of all groups, in the order of their first rows
abbrev pub results_of : List Row → List (ℕ × ℕ × ℕ)
results_of rows = map (result_of rows) (groups_of rows)

-- four rows of two groups: row r, counted from 0, has value r and the group (93 + 7 * r) mod 1000 mod 2
abbrev pub four_rows : List Row
four_rows =
    record { group = 1; value = 0 } ∷ record { group = 0; value = 1 } ∷ record { group = 1; value = 2 } ∷ record { group = 0; value = 3 } ∷ []
