-- Lemmas on the groups of rows.
use Rattle.std.proofs.Common.{◌≡◌, ℕ, zero, suc, Bool, true, false, not, cond, ◌||◌, ◌&&◌, nat_eq, List, [], ◌∷◌, take, drop, refl, sym, ap, ◌∙◌, arith}
use Rattle.std.specs.List.{filter, list_any}
use Rattle.std.proofs.lemmas.Bool.{eqb-true, eq-eqb, not_from_false, false_from_ne_true, both_ways}
use Rattle.std.proofs.lemmas.Bool.Decides.{nat_tests}
use Rattle.std.proofs.lemmas.List.Elements.{filter_agree}
use Rattle.agg_rules.specs.declared.Row.{Row}
use Rattle.agg_rules.specs.Rows.{is_other, groups_of, rows_of}
use Rattle.agg_rules.specs.Passes.{is_outside}
use Rattle.agg_rules.proofs.Filters.{filter_both, filter_comm, filter_absorb, filter_all}

-- what passes a test that a group fails is another group
other_from : (p : ℕ → Bool) (group : ℕ) → p group ≡ false → (x : ℕ) → p x ≡ true → is_other group x ≡ true
other_from p group fails x passes =
    not_from_false (nat_eq group x) (false_from_ne_true (nat_eq group x) (λ same. both_ways (p x) (ap p (sym (eqb-true group x same)) ∙ fails) passes))

-- the groups of the rows whose groups pass a test are the groups that pass it
pub groups_of-filter : (p : ℕ → Bool) (rows : List Row) → groups_of (filter (λ (row : Row). p row.group) rows) ≡ filter p (groups_of rows)
groups_of-filter p [] = refl
groups_of-filter p (row ∷ rows) = by_test (groups_of-filter p rows) (p row.group) refl
  where
    left : List Row
    left = filter (λ (row : Row). p row.group) rows

    behind : List ℕ
    behind = filter (is_other row.group) (groups_of rows)

    by_test : groups_of left ≡ filter p (groups_of rows) → (b : Bool) → p row.group ≡ b → groups_of (cond b (row ∷ left) left) ≡ cond b (row.group ∷ filter p behind) (filter p behind)
    by_test same true e = ap (λ gs. row.group ∷ gs) (ap (filter (is_other row.group)) same ∙ filter_comm (is_other row.group) p (groups_of rows))
    by_test same false e = same ∙ sym (filter_absorb p (is_other row.group) (other_from p row.group e) (groups_of rows))

-- the rows of a group that passes a test are among those whose groups pass it
pub rows_of-filter : (p : ℕ → Bool) (group : ℕ) → p group ≡ true → (rows : List Row) → rows_of group (filter (λ (row : Row). p row.group) rows) ≡ rows_of group rows
rows_of-filter p group passes rows =
    filter_absorb (λ (row : Row). nat_eq row.group group) (λ (row : Row). p row.group) (λ row same. ap p (eqb-true row.group group same) ∙ passes) rows

-- no group stands twice
abbrev pub IsSpread : List ℕ → Type 0
IsSpread [] = Unit {0}
IsSpread (g ∷ gs) = (filter (is_other g) gs ≡ gs) × IsSpread gs

IsSpread-filter : (p : ℕ → Bool) (gs : List ℕ) → IsSpread gs → IsSpread (filter p gs)
IsSpread-filter p [] spread = tt
IsSpread-filter p (g ∷ gs) spread =
    elim (p g) as (λ b. IsSpread (cond b (g ∷ filter p gs) (filter p gs))) [
      | true ↦ (filter_comm (is_other g) p gs ∙ ap (filter p) spread.0, IsSpread-filter p gs spread.1)
      | false ↦ IsSpread-filter p gs spread.1
    ]

pub IsSpread-groups : (rows : List Row) → IsSpread (groups_of rows)
IsSpread-groups [] = tt
IsSpread-groups (row ∷ rows) =
    (filter_absorb (is_other row.group) (is_other row.group) (λ x h. h) (groups_of rows), IsSpread-filter (is_other row.group) (groups_of rows) (IsSpread-groups rows))

pub nat_eq_swapped : (x y : ℕ) → nat_eq x y ≡ nat_eq y x
nat_eq_swapped x y = grind (arith, nat_tests)

outside_more : (g x : ℕ) (gs : List ℕ) → is_outside (g ∷ gs) x ≡ (is_other g x && is_outside gs x)
outside_more g x gs = elim (nat_eq x g) as (λ b. not (b || list_any (nat_eq x) gs) ≡ (not b && is_outside gs x)) [ true ↦ refl | false ↦ refl ] ∙ ap (λ b. not b && is_outside gs x) (nat_eq_swapped x g)

-- what isn't among the first groups are the other ones
pub filter_outside : (n : ℕ) (gs : List ℕ) → IsSpread gs → filter (is_outside (take n gs)) gs ≡ drop n gs
filter_outside zero gs spread = filter_all (is_outside []) (λ x. refl) gs
filter_outside (suc n) [] spread = refl
filter_outside (suc n) (g ∷ gs) spread =
    let firsts = take n gs in
    ap (λ b. cond b (g ∷ filter (is_outside (g ∷ firsts)) gs) (filter (is_outside (g ∷ firsts)) gs)) (ap (λ b. not (b || list_any (nat_eq g) firsts)) (eq-eqb g g refl))
    ∙ filter_agree (is_outside (g ∷ firsts)) (λ x. is_other g x && is_outside firsts x) (λ x. outside_more g x firsts) gs
    ∙ filter_both (is_outside firsts) (is_other g) gs
    ∙ ap (filter (is_outside firsts)) spread.0
    ∙ filter_outside n gs spread.1
