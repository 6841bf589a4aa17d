-- Lemmas on the rows whose groups a pass holds.
use Rattle.std.proofs.Common.{◌≡◌, ℕ, zero, suc, ◌⊎◌, Bool, true, false, not, cond, ◌||◌, ◌&&◌, nat_eq, List, [], ◌∷◌, ◌++◌, length, map, take, sum_by, refl, sym, ap, ◌∙◌, inl, inr}
use Rattle.std.specs.List.{filter, list_any}
use Rattle.std.proofs.lemmas.Bool.{eq-eqb}
use Rattle.std.proofs.lemmas.List.Elements.{filter-append, filter_agree}
use Rattle.std.proofs.lemmas.List.Folds.{list_any-append}
use Rattle.agg_rules.specs.declared.Row.{Row}
use Rattle.agg_rules.specs.Rows.{is_other, groups_of, result_of, results_of}
use Rattle.agg_rules.specs.Passes.{kept_groups, spilled_rows, pass_results}
use Rattle.agg_rules.proofs.Filters.{filter_both, map-filter_agree}
use Rattle.agg_rules.proofs.Groups.{IsSpread, IsSpread-groups, nat_eq_swapped, groups_of-filter, rows_of-filter}
use Rattle.agg_rules.proofs.More.{IsSame, IsNew, same_or_new, fresh_rows, spilled_rows-more}
use Rattle.agg_pass.specs.PassState.{held_rows}

-- the group is one of some
abbrev is_inside : List ℕ → ℕ → Bool
is_inside groups group = list_any (nat_eq group) groups

filter_none : {X : Type 0} (xs : List X) → filter (λ (x : X). false) xs ≡ []
filter_none [] = refl
filter_none (x ∷ xs) = filter_none xs

-- among groups that are others than one, it makes no difference whether that one is among some
no_difference : (g x : ℕ) (b : Bool) → (is_other g x && (nat_eq x g || b)) ≡ (is_other g x && b)
no_difference g x b =
    ap (λ c. not c && (nat_eq x g || b)) (nat_eq_swapped g x)
    ∙ elim (nat_eq x g) as (λ c. (not c && (c || b)) ≡ (not c && b)) [ true ↦ refl | false ↦ refl ]
    ∙ ap (λ c. not c && b) (nat_eq_swapped x g)

-- what is among the first groups are these
filter_inside : (n : ℕ) (gs : List ℕ) → IsSpread gs → filter (is_inside (take n gs)) gs ≡ take n gs
filter_inside zero gs spread = filter_none gs
filter_inside (suc n) [] spread = refl
filter_inside (suc n) (g ∷ gs) spread =
    let firsts = take n gs in
    ap (λ b. cond b (g ∷ filter (is_inside (g ∷ firsts)) gs) (filter (is_inside (g ∷ firsts)) gs)) (ap (λ b. b || list_any (nat_eq g) firsts) (eq-eqb g g refl))
    ∙ ap (λ rest. g ∷ rest) (
    ap (filter (is_inside (g ∷ firsts))) (sym spread.0)
    ∙ sym (filter_both (is_inside (g ∷ firsts)) (is_other g) gs)
    ∙ filter_agree (λ x. is_other g x && is_inside (g ∷ firsts) x) (λ x. is_other g x && is_inside firsts x) (λ x. no_difference g x (is_inside firsts x)) gs
    ∙ filter_both (is_inside firsts) (is_other g) gs
    ∙ ap (filter (is_inside firsts)) spread.0
    ∙ filter_inside n gs spread.1)

-- the groups of the rows that are held are the groups that are held
pub groups_of-held : (budget : ℕ) (rows : List Row) → groups_of (held_rows budget rows) ≡ kept_groups budget rows
groups_of-held budget rows = groups_of-filter (is_inside (kept_groups budget rows)) rows ∙ filter_inside budget (groups_of rows) (IsSpread-groups rows)

-- and they give what the pass gives
pub results_of-held : (budget : ℕ) (rows : List Row) → results_of (held_rows budget rows) ≡ pass_results budget rows
results_of-held budget rows =
    let inside = is_inside (kept_groups budget rows) in
    ap (map (result_of (held_rows budget rows))) (groups_of-filter inside rows)
    ∙ map-filter_agree (result_of (held_rows budget rows)) (result_of rows) inside (λ g passes. ap (λ rs. (g, length rs, sum_by (λ (row : Row). row.value) rs)) (rows_of-filter inside g passes rows)) (groups_of rows)
    ∙ ap (map (result_of rows)) (filter_inside budget (groups_of rows) (IsSpread-groups rows))

-- a group put last makes a difference for that group alone
inside_push : (kept : List ℕ) (g x : ℕ) → is_inside (kept ++ g ∷ []) x ≡ (nat_eq x g || is_inside kept x)
inside_push kept g x =
    list_any-append (nat_eq x) kept (g ∷ [])
    ∙ elim (list_any (nat_eq x) kept) as (λ a. (a || (nat_eq x g || false)) ≡ (nat_eq x g || a)) [
      | true ↦ elim (nat_eq x g) as (λ b. true ≡ (b || true)) [ true ↦ refl | false ↦ refl ]
      | false ↦ refl
    ]

still_held : (budget : ℕ) (rows : List Row) (row : Row) → IsSame budget rows row ⊎ IsNew budget rows row → filter (λ (r : Row). is_inside (kept_groups budget (rows ++ row ∷ [])) r.group) rows ≡ held_rows budget rows
still_held budget rows row (inl same) = ap (λ kept. filter (λ (r : Row). is_inside kept r.group) rows) same
still_held budget rows row (inr (now, fresh)) =
    let kept = kept_groups budget rows in
    let g = row.group in
    let others = fresh_rows g rows fresh in
    ap (λ kept. filter (λ (r : Row). is_inside kept r.group) rows) now
    ∙ filter_agree (λ (r : Row). is_inside (kept ++ g ∷ []) r.group) (λ (r : Row). nat_eq r.group g || is_inside kept r.group) (λ r. inside_push kept g r.group) rows
    ∙ ap (filter (λ (r : Row). nat_eq r.group g || is_inside kept r.group)) (sym others)
    ∙ sym (filter_both (λ (r : Row). nat_eq r.group g || is_inside kept r.group) (λ (r : Row). is_other g r.group) rows)
    ∙ filter_agree (λ (r : Row). is_other g r.group && (nat_eq r.group g || is_inside kept r.group)) (λ (r : Row). is_other g r.group && is_inside kept r.group) (λ r. no_difference g r.group (is_inside kept r.group)) rows
    ∙ filter_both (λ (r : Row). is_inside kept r.group) (λ (r : Row). is_other g r.group) rows
    ∙ ap (filter (λ (r : Row). is_inside kept r.group)) others

-- with one row more that one is held besides, where its group is
pub held_rows-more : (budget : ℕ) (rows : List Row) (row : Row) (c : Bool) → list_any (nat_eq row.group) (kept_groups budget (rows ++ row ∷ [])) ≡ c → held_rows budget (rows ++ row ∷ []) ≡ held_rows budget rows ++ cond c (row ∷ []) []
held_rows-more budget rows row c found =
    let now = kept_groups budget (rows ++ row ∷ []) in
    filter-append (λ (r : Row). is_inside now r.group) rows (row ∷ [])
    ∙ ap (λ rs. rs ++ cond (is_inside now row.group) (row ∷ []) []) (still_held budget rows row (same_or_new budget rows row).1)
    ∙ ap (λ b. held_rows budget rows ++ cond b (row ∷ []) []) found

pub spilled_more : (budget : ℕ) (rows : List Row) (row : Row) (c : Bool) → list_any (nat_eq row.group) (kept_groups budget (rows ++ row ∷ [])) ≡ c → spilled_rows budget (rows ++ row ∷ []) ≡ spilled_rows budget rows ++ cond c [] (row ∷ [])
spilled_more budget rows row c found = spilled_rows-more budget rows row ∙ ap (λ b. spilled_rows budget rows ++ cond b [] (row ∷ [])) found
