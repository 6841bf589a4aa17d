-- Lemmas on the totals of groups.
use Rattle.std.proofs.Common.{◌≡◌, ℕ, suc, ◌+◌, ◌*◌, ◌^◌, ◌<◌, ◌≤◌, true, false, cond, nat_eq, List, [], ◌∷◌, ◌++◌, length, sum_by, All, refl, ap, ◌∙◌, arith}
use Rattle.std.specs.List.{list_any}
use Rattle.std.proofs.lemmas.Bool.{eq-eqb}
use Rattle.std.proofs.lemmas.List.{append-nil, length-append}
use Rattle.std.proofs.lemmas.List.Sums.{sum_by-append, sum_by-cons}
use Rattle.agg_rules.specs.declared.Row.{Row}
use Rattle.agg_rules.specs.Rows.{groups_of, rows_of, result_of}
use Rattle.agg_rules.proofs.More.{rows_of-more, rows_of-fresh}
use Rattle.held_groups.specs.Totals.{IsTotal}
use Rattle.held_groups.specs.Held.{IsRow}

abbrev value_of : Row → ℕ
value_of row = row.value

-- what a group has, as a total
abbrev total_over : ℕ → List Row → ℕ × ℕ × ℕ
total_over group rows = (group, length rows, sum_by value_of rows)

few_rows : (group : ℕ) (rows : List Row) → length (rows_of group rows) ≤ length rows
few_rows group [] = omega arith
few_rows group (row ∷ rows) = elim (nat_eq row.group group) as (λ b. length (cond b (row ∷ rows_of group rows) (rows_of group rows)) ≤ length (row ∷ rows)) [ true ↦ omega (arith, few_rows group rows) | false ↦ omega (arith, few_rows group rows) ]

small_sum : (group : ℕ) (rows : List Row) → All IsRow rows → sum_by value_of (rows_of group rows) ≤ 2 ^ 32 * length rows
small_sum group [] all = omega arith
small_sum group (row ∷ rows) all =
    let rest = small_sum group rows (λ k d below. all (suc k) d (omega (arith, below))) in
    let first : row.value < 2 ^ 32 = (all 0 row (omega arith)).1 in
    elim (nat_eq row.group group) as (λ b. sum_by value_of (cond b (row ∷ rows_of group rows) (rows_of group rows)) ≤ 2 ^ 32 * length (row ∷ rows)) [
      | true ↦ omega (arith, sum_by-cons value_of row (rows_of group rows), rest, first)
      | false ↦ omega (arith, rest)
    ]

-- a total of few rows fits
pub IsTotal-result : (group : ℕ) (rows : List Row) → group < 2 ^ 32 → All IsRow rows → length rows ≤ 100000 → IsTotal (result_of rows group)
IsTotal-result group rows fits all few = (fits, omega (arith, few_rows group rows, few), omega (arith, small_sum group rows all, few))

-- and far below
pub small-result : (group : ℕ) (rows : List Row) → All IsRow rows → length rows ≤ 100000 → ((result_of rows group).1 ≤ 100000) × ((result_of rows group).2 ≤ 2 ^ 32 * 100000)
small-result group rows all few = (omega (arith, few_rows group rows, few), omega (arith, small_sum group rows all, few))

-- another group's row changes nothing
pub result_of-other : (group : ℕ) (rows : List Row) (row : Row) → nat_eq row.group group ≡ false → result_of (rows ++ row ∷ []) group ≡ result_of rows group
result_of-other group rows row differs =
    ap (total_over group) (rows_of-more group rows row ∙ ap (λ b. rows_of group rows ++ cond b (row ∷ []) []) differs ∙ append-nil (rows_of group rows))

rows_of-own : (rows : List Row) (row : Row) → rows_of row.group (rows ++ row ∷ []) ≡ rows_of row.group rows ++ row ∷ []
rows_of-own rows row = rows_of-more row.group rows row ∙ ap (λ b. rows_of row.group rows ++ cond b (row ∷ []) []) (eq-eqb row.group row.group refl)

-- a group's own row is counted and summed
pub result_of-own : (rows : List Row) (row : Row) → result_of (rows ++ row ∷ []) row.group ≡ (row.group, (result_of rows row.group).1 + 1, (result_of rows row.group).2 + row.value)
result_of-own rows row =
    let own = rows_of row.group rows in
    let sum : sum_by value_of (own ++ row ∷ []) ≡ sum_by value_of own + row.value = omega (arith, sum_by-append value_of own (row ∷ []), sum_by-cons value_of row []) in
    ap (total_over row.group) (rows_of-own rows row)
    ∙ ap (λ (n : ℕ). (row.group, n, sum_by value_of (own ++ row ∷ []))) (length-append own (row ∷ []))
    ∙ ap (λ (n : ℕ). (row.group, length own + 1, n)) sum

-- the first row of a group is all that it has
pub result_of-first : (rows : List Row) (row : Row) → list_any (nat_eq row.group) (groups_of rows) ≡ false → result_of (rows ++ row ∷ []) row.group ≡ (row.group, 1, row.value)
result_of-first rows row fresh =
    ap (total_over row.group) (rows_of-own rows row ∙ ap (λ own. own ++ row ∷ []) (rows_of-fresh row.group rows fresh))
    ∙ ap (λ (n : ℕ). (row.group, 1, n)) (omega (arith, sum_by-cons value_of row []))
