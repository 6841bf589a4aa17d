-- What one row more does to the groups and to what is spilled.
use Rattle.std.proofs.Common.{◌≡◌, ℕ, ◌<◌, ◌≤◌, ◌⊎◌, Bool, true, false, not, cond, ◌||◌, ◌&&◌, nat_eq, nat_lt, List, [], ◌∷◌, ◌++◌, length, take, if◌then◌else◌, refl, sym, ap, ◌∙◌, inl, inr, arith}
use Rattle.std.specs.List.{filter, list_any}
use Rattle.std.proofs.lemmas.Bool.{eqb-true, not_from_false, false_from_ne_true, both_ways, or_parts, lt-ltb, le-ltb, cases_lt}
use Rattle.std.proofs.lemmas.List.{append-nil, length-append, length-take-le, take_all, take-append-le}
use Rattle.std.proofs.lemmas.List.Elements.{filter-append, filter_agree}
use Rattle.std.proofs.lemmas.List.Folds.{list_any-append}
use Rattle.agg_rules.specs.declared.Row.{Row}
use Rattle.agg_rules.specs.Rows.{is_other, groups_of, rows_of}
use Rattle.agg_rules.specs.Passes.{is_outside, kept_groups, spilled_rows}
use Rattle.agg_rules.specs.Steps.{joined}
use Rattle.agg_rules.proofs.Filters.{filter_both}
use Rattle.agg_rules.proofs.Groups.{nat_eq_swapped}

-- a test that follows on what is left finds what it finds in the whole list
list_any-filter : {X : Type 0} (t q : X → Bool) → ((x : X) → t x ≡ true → q x ≡ true) → (xs : List X) → list_any t (filter q xs) ≡ list_any t xs
list_any-filter t q follows [] = refl
list_any-filter {X} t q follows (x ∷ xs) = by_test (list_any-filter t q follows xs) (q x) refl
  where
    by_test : list_any t (filter q xs) ≡ list_any t xs → (b : Bool) → q x ≡ b → list_any t (cond b (x ∷ filter q xs) (filter q xs)) ≡ (t x || list_any t xs)
    by_test same true e = ap (λ b. t x || b) same
    by_test same false e = same ∙ ap (λ b. b || list_any t xs) (sym (false_from_ne_true (t x) (λ h. both_ways (q x) e (follows x h))))

-- another group than one is found among the groups that aren't that one
found_behind : (x g : ℕ) (gs : List ℕ) → nat_eq g x ≡ false → list_any (nat_eq g) (filter (is_other x) gs) ≡ list_any (nat_eq g) gs
found_behind x g gs differs =
    list_any-filter (nat_eq g) (is_other x) (λ y same. not_from_false (nat_eq x y) (ap (λ (k : ℕ). nat_eq x k) (sym (eqb-true g y same)) ∙ nat_eq_swapped x g ∙ differs)) gs

-- the groups of rows with one row more
pub groups_of-more : (rows : List Row) (row : Row) → groups_of (rows ++ row ∷ []) ≡ cond (list_any (nat_eq row.group) (groups_of rows)) (groups_of rows) (groups_of rows ++ row.group ∷ [])
groups_of-more [] row = refl
groups_of-more (x ∷ rows) row =
    ap (λ gs. x.group ∷ filter (is_other x.group) gs) (groups_of-more rows row)
    ∙ by_tests x.group row.group (groups_of rows) (list_any (nat_eq row.group) (groups_of rows)) (nat_eq row.group x.group) refl refl
  where
    by_tests : (x g : ℕ) (gs : List ℕ) (a b : Bool) → list_any (nat_eq g) gs ≡ a → nat_eq g x ≡ b → x ∷ filter (is_other x) (cond a gs (gs ++ g ∷ [])) ≡ cond (b || list_any (nat_eq g) (filter (is_other x) gs)) (x ∷ filter (is_other x) gs) (x ∷ filter (is_other x) gs ++ g ∷ [])
    by_tests x g gs true true found same = refl
    by_tests x g gs false true found same =
        ap (λ ys. x ∷ ys) (filter-append (is_other x) gs (g ∷ []) ∙ ap (λ c. filter (is_other x) gs ++ cond (not c) (g ∷ []) []) (nat_eq_swapped x g ∙ same) ∙ append-nil (filter (is_other x) gs))
    by_tests x g gs true false found same =
        ap (λ c. cond c (x ∷ filter (is_other x) gs) (x ∷ filter (is_other x) gs ++ g ∷ [])) (sym (found_behind x g gs same ∙ found))
    by_tests x g gs false false found same =
        ap (λ ys. x ∷ ys) (filter-append (is_other x) gs (g ∷ []) ∙ ap (λ c. filter (is_other x) gs ++ cond (not c) (g ∷ []) []) (nat_eq_swapped x g ∙ same))
        ∙ ap (λ c. cond c (x ∷ filter (is_other x) gs) (x ∷ filter (is_other x) gs ++ g ∷ [])) (sym (found_behind x g gs same ∙ found))

-- where no row has a group, no row is left out by it
pub fresh_rows : (g : ℕ) (rows : List Row) → list_any (nat_eq g) (groups_of rows) ≡ false → filter (λ (row : Row). is_other g row.group) rows ≡ rows
fresh_rows g [] none = refl
fresh_rows g (x ∷ rows) none =
    let parts = or_parts (nat_eq g x.group) (list_any (nat_eq g) (filter (is_other x.group) (groups_of rows))) none in
    let left = filter (λ (row : Row). is_other g row.group) rows in
    ap (λ c. cond (not c) (x ∷ left) left) parts.0 ∙ ap (λ rs. x ∷ rs) (fresh_rows g rows (sym (found_behind x.group g (groups_of rows) parts.0) ∙ parts.1))

-- and it has no rows
pub rows_of-fresh : (g : ℕ) (rows : List Row) → list_any (nat_eq g) (groups_of rows) ≡ false → rows_of g rows ≡ []
rows_of-fresh g [] none = refl
rows_of-fresh g (x ∷ rows) none =
    let parts = or_parts (nat_eq g x.group) (list_any (nat_eq g) (filter (is_other x.group) (groups_of rows))) none in
    ap (λ c. cond c (x ∷ rows_of g rows) (rows_of g rows)) (nat_eq_swapped x.group g ∙ parts.0) ∙ rows_of-fresh g rows (sym (found_behind x.group g (groups_of rows) parts.0) ∙ parts.1)

-- the rows of a group with one row more
pub rows_of-more : (g : ℕ) (rows : List Row) (row : Row) → rows_of g (rows ++ row ∷ []) ≡ rows_of g rows ++ cond (nat_eq row.group g) (row ∷ []) []
rows_of-more g rows row = filter-append (λ (r : Row). nat_eq r.group g) rows (row ∷ [])

-- what a pass holds with one row more: the same, or one new group, which no row had
abbrev pub IsSame : ℕ → List Row → Row → Type 0
IsSame budget rows row = kept_groups budget (rows ++ row ∷ []) ≡ kept_groups budget rows

abbrev pub IsNew : ℕ → List Row → Row → Type 0
IsNew budget rows row = (kept_groups budget (rows ++ row ∷ []) ≡ kept_groups budget rows ++ row.group ∷ []) × (list_any (nat_eq row.group) (groups_of rows) ≡ false)

abbrev pub IsJoined : ℕ → List Row → Row → Type 0
IsJoined budget rows row = kept_groups budget (rows ++ row ∷ []) ≡ joined budget (kept_groups budget rows) row.group

either : {A : Type 0} (c : Bool) (x : A) → cond c x x ≡ x
either true x = refl
either false x = refl

by_room : (budget : ℕ) (rows : List Row) (row : Row) (a : Bool) → list_any (nat_eq row.group) (groups_of rows) ≡ a → (length (groups_of rows) < budget) ⊎ (budget ≤ length (groups_of rows)) → IsJoined budget rows row × (IsSame budget rows row ⊎ IsNew budget rows row)
by_room budget rows row true found (inl room) =
    let gs = groups_of rows in
    let now = ap (take budget) (groups_of-more rows row ∙ ap (λ c. cond c gs (gs ++ row.group ∷ [])) found) in
    let all : take budget gs ≡ gs = take_all budget gs (omega (arith, room)) in
    let kept = take budget gs in
    let joins : joined budget kept row.group ≡ kept = ap (λ c. cond c kept (cond (nat_lt (length kept) budget) (kept ++ row.group ∷ []) kept)) (ap (list_any (nat_eq row.group)) all ∙ found) in
    (now ∙ sym joins, inl now)
by_room budget rows row false found (inl room) =
    let gs = groups_of rows in
    let kept = take budget gs in
    let all : kept ≡ gs = take_all budget gs (omega (arith, room)) in
    let now : kept_groups budget (rows ++ row ∷ []) ≡ kept ++ row.group ∷ [] =
    ap (take budget) (groups_of-more rows row ∙ ap (λ c. cond c gs (gs ++ row.group ∷ [])) found)
    ∙ take_all budget (gs ++ row.group ∷ []) (omega (arith, room, length-append gs (row.group ∷ [])))
    ∙ ap (λ ks. ks ++ row.group ∷ []) (sym all) in
    let joins : joined budget kept row.group ≡ kept ++ row.group ∷ [] =
    ap (λ c. cond c kept (cond (nat_lt (length kept) budget) (kept ++ row.group ∷ []) kept)) (ap (list_any (nat_eq row.group)) all ∙ found)
    ∙ ap (λ c. cond c (kept ++ row.group ∷ []) kept) (lt-ltb (length kept) budget (omega (arith, room, ap (λ (ks : List ℕ). length ks) all))) in
    (now ∙ sym joins, inr (now, found))
by_room budget rows row a found (inr full) =
    let gs = groups_of rows in
    let kept = take budget gs in
    let either_way : (b : Bool) → take budget (cond b gs (gs ++ row.group ∷ [])) ≡ kept = λ b. elim b as (λ b. take budget (cond b gs (gs ++ row.group ∷ [])) ≡ kept) [ true ↦ refl | false ↦ take-append-le budget gs (row.group ∷ []) full ] in
    let now : kept_groups budget (rows ++ row ∷ []) ≡ kept = ap (take budget) (groups_of-more rows row) ∙ either_way (list_any (nat_eq row.group) gs) in
    let joins : joined budget kept row.group ≡ kept =
    ap (λ c. cond (list_any (nat_eq row.group) kept) kept (cond c (kept ++ row.group ∷ []) kept)) (le-ltb (length kept) budget (omega (arith, length-take-le budget gs full)))
    ∙ either (list_any (nat_eq row.group) kept) kept in
    (now ∙ sym joins, inl now)

pub same_or_new : (budget : ℕ) (rows : List Row) (row : Row) → IsJoined budget rows row × (IsSame budget rows row ⊎ IsNew budget rows row)
same_or_new budget rows row = by_room budget rows row (list_any (nat_eq row.group) (groups_of rows)) refl (cases_lt (length (groups_of rows)) budget)

pub kept_groups-more : (budget : ℕ) (rows : List Row) (row : Row) → IsJoined budget rows row
kept_groups-more budget rows row = (same_or_new budget rows row).0

-- the rows whose groups aren't among some are the same where a group comes that no row has
outside_push : (kept : List ℕ) (g x : ℕ) → is_outside (kept ++ g ∷ []) x ≡ (is_other g x && is_outside kept x)
outside_push kept g x =
    ap not (list_any-append (nat_eq x) kept (g ∷ []))
    ∙ elim (list_any (nat_eq x) kept) as (λ a. not (a || (nat_eq x g || false)) ≡ (not (nat_eq x g) && not a)) [
      | true ↦ elim (nat_eq x g) as (λ b. false ≡ (not b && false)) [ true ↦ refl | false ↦ refl ]
      | false ↦ elim (nat_eq x g) as (λ b. not (b || false) ≡ (not b && true)) [ true ↦ refl | false ↦ refl ]
    ]
    ∙ ap (λ b. not b && is_outside kept x) (nat_eq_swapped x g)

-- the rows that were spilled stay so
still_spilled : (budget : ℕ) (rows : List Row) (row : Row) → IsSame budget rows row ⊎ IsNew budget rows row → filter (λ (r : Row). is_outside (kept_groups budget (rows ++ row ∷ [])) r.group) rows ≡ spilled_rows budget rows
still_spilled budget rows row (inl same) = ap (λ kept. filter (λ (r : Row). is_outside kept r.group) rows) same
still_spilled budget rows row (inr (now, fresh)) =
    let kept = kept_groups budget rows in
    let g = row.group in
    ap (λ kept. filter (λ (r : Row). is_outside kept r.group) rows) now
    ∙ filter_agree (λ (r : Row). is_outside (kept ++ g ∷ []) r.group) (λ (r : Row). is_other g r.group && is_outside kept r.group) (λ r. outside_push kept g r.group) rows
    ∙ filter_both (λ (r : Row). is_outside kept r.group) (λ (r : Row). is_other g r.group) rows
    ∙ ap (filter (λ (r : Row). is_outside kept r.group)) (fresh_rows g rows fresh)

-- with one row more that one is spilled besides, unless its group is held
pub spilled_rows-more : (budget : ℕ) (rows : List Row) (row : Row) → spilled_rows budget (rows ++ row ∷ []) ≡ spilled_rows budget rows ++ (if list_any (nat_eq row.group) (kept_groups budget (rows ++ row ∷ [])) then [] else row ∷ [])
spilled_rows-more budget rows row =
    let now = kept_groups budget (rows ++ row ∷ []) in
    filter-append (λ (r : Row). is_outside now r.group) rows (row ∷ [])
    ∙ ap (λ rs. rs ++ cond (is_outside now row.group) (row ∷ []) []) (still_spilled budget rows row (same_or_new budget rows row).1)
    ∙ ap (λ rs. spilled_rows budget rows ++ rs) (elim (list_any (nat_eq row.group) now) as (λ a. cond (not a) (row ∷ []) [] ≡ cond a [] (row ∷ [])) [ true ↦ refl | false ↦ refl ])
