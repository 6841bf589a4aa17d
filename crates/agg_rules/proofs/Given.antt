-- What the passes give is what the rows have.
use Rattle.std.proofs.Common.{◌≡◌, ℕ, zero, suc, ◌<◌, ◌≤◌, Bool, false, not, cond, ◌||◌, nat_eq, List, [], ◌∷◌, ◌++◌, length, map, take, drop, refl, sym, ap, ◌∙◌, arith, sum_by}
use Rattle.std.specs.List.{filter, list_any, flat_map}
use Rattle.std.proofs.lemmas.Bool.{eq-eqb}
use Rattle.std.proofs.lemmas.List.{map-append, take-append-drop}
use Rattle.agg_rules.specs.declared.Row.{Row}
use Rattle.agg_rules.specs.Rows.{is_other, groups_of, result_of, results_of}
use Rattle.agg_rules.specs.Passes.{is_outside, kept_groups, spilled_rows, pass_results, passes_within, given_by}
use Rattle.agg_rules.proofs.Filters.{length-filter_le, map-filter_agree}
use Rattle.agg_rules.proofs.Groups.{groups_of-filter, rows_of-filter, IsSpread-groups, filter_outside}

-- a pass spills the rows of the groups behind those that it holds
pub groups_of-spilled : (budget : ℕ) (rows : List Row) → groups_of (spilled_rows budget rows) ≡ drop budget (groups_of rows)
groups_of-spilled budget rows =
    groups_of-filter (is_outside (kept_groups budget rows)) rows ∙ filter_outside budget (groups_of rows) (IsSpread-groups rows)

-- and what it spills gives of them what all rows give
results_of-spilled : (budget : ℕ) (rows : List Row) → results_of (spilled_rows budget rows) ≡ map (result_of rows) (drop budget (groups_of rows))
results_of-spilled budget rows =
    let outside = is_outside (kept_groups budget rows) in
    ap (map (result_of (spilled_rows budget rows))) (groups_of-filter outside rows)
    ∙ map-filter_agree (result_of (spilled_rows budget rows)) (result_of rows) outside (λ g passes. ap (λ rs. (g, length rs, sum_by (λ (row : Row). row.value) rs)) (rows_of-filter outside g passes rows)) (groups_of rows)
    ∙ ap (map (result_of rows)) (filter_outside budget (groups_of rows) (IsSpread-groups rows))

-- one pass, and what it spills
pub results_of-pass : (budget : ℕ) (rows : List Row) → results_of rows ≡ pass_results budget rows ++ results_of (spilled_rows budget rows)
results_of-pass budget rows =
    ap (map (result_of rows)) (sym (take-append-drop budget (groups_of rows)))
    ∙ map-append (result_of rows) (take budget (groups_of rows)) (drop budget (groups_of rows))
    ∙ ap (λ rs. pass_results budget rows ++ rs) (sym (results_of-spilled budget rows))

-- a pass spills fewer rows than it goes over
pub length-spilled : (budget : ℕ) (row : Row) (rows : List Row) → 0 < budget → length (spilled_rows budget (row ∷ rows)) ≤ length rows
length-spilled zero row rows some = absurd (omega (arith, some))
length-spilled (suc budget) row rows some =
    let others = take budget (filter (is_other row.group) (groups_of rows)) in
    let test : Row → Bool = λ (r : Row). is_outside (row.group ∷ others) r.group in
    let first : test row ≡ false = ap (λ b. not (b || list_any (nat_eq row.group) others)) (eq-eqb row.group row.group refl) in
    omega (arith, length-filter_le test rows, ap (λ b. length (cond b (row ∷ filter test rows) (filter test rows))) first)

given_within : (n budget : ℕ) (rows : List Row) → 0 < budget → length rows ≤ n → flat_map (pass_results budget) (passes_within n budget rows) ≡ results_of rows
given_within zero budget [] some few = refl
given_within zero budget (row ∷ rows) some few = absurd (omega (arith, few))
given_within (suc n) budget [] some few = refl
given_within (suc n) budget (row ∷ rows) some few =
    ap (λ rs. pass_results budget (row ∷ rows) ++ rs) (given_within n budget (spilled_rows budget (row ∷ rows)) some (omega (arith, few, length-spilled budget row rows some)))
    ∙ sym (results_of-pass budget (row ∷ rows))

-- whatever the budget, all passes together give what the rows have
pub given_by-results : (budget : ℕ) (rows : List Row) → 0 < budget → given_by budget rows ≡ results_of rows
given_by-results budget rows some = given_within (length rows) budget rows some (omega arith)
