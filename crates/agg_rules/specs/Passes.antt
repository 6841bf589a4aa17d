-- How an aggregate that holds a limited number of groups at once goes over its rows in passes.
use Rattle.std.specs.Prelude.{ℕ, zero, suc, Bool, not, nat_eq, List, [], ◌∷◌, length, map, filter, take}
use Rattle.std.specs.List.{flat_map, list_any}
use Rattle.agg_rules.specs.declared.Row.{Row}
use Rattle.agg_rules.specs.Rows.{groups_of, result_of}

-- the groups that a pass holds: the first ones, as many as the budget is
abbrev pub kept_groups : ℕ → List Row → List ℕ
kept_groups budget rows = take budget (groups_of rows)

-- the group isn't among some
abbrev pub is_outside : List ℕ → ℕ → Bool
is_outside groups group = not (list_any (nat_eq group) groups)

-- the rows that a pass spills: those of the other groups, in order
abbrev pub spilled_rows : ℕ → List Row → List Row
spilled_rows budget rows = filter (λ (row : Row). is_outside (kept_groups budget rows) row.group) rows

-- what a pass gives: the groups that it holds
abbrev pub pass_results : ℕ → List Row → List (ℕ × ℕ × ℕ)
pass_results budget rows = map (result_of rows) (kept_groups budget rows)

-- the rows that each pass goes over: first all, and then what the pass before it spilled, until nothing is spilled. There
-- are no more passes than rows
abbrev pub passes_within : ℕ → ℕ → List Row → List (List Row)
passes_within zero budget rows = []
passes_within (suc n) budget [] = []
passes_within (suc n) budget (row ∷ rows) = (row ∷ rows) ∷ passes_within n budget (spilled_rows budget (row ∷ rows))

abbrev pub passes_of : ℕ → List Row → List (List Row)
passes_of budget rows = passes_within (length rows) budget rows

-- what all passes give, one after another
abbrev pub given_by : ℕ → List Row → List (ℕ × ℕ × ℕ)
given_by budget rows = flat_map (pass_results budget) (passes_of budget rows)
