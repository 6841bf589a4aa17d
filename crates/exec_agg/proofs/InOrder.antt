-- A pass over rows, one after another.
use Rattle.std.proofs.Common.{◌≡◌, ℕ, ◌+◌, List, [], ◌∷◌, ◌++◌, take, drop, Option, Some, None, Result, Ok, Err, refl, sym, ap, ◌∙◌, suc, zero, arith}
use Rattle.std.proofs.lemmas.Bool.Decides.{nat_tests}
use Rattle.std.specs.Prelude.{slice_get}
use Rattle.std.specs.List.{flat_map}
use Rattle.temp_store.specs.Temp.{Temp}
use Rattle.agg_rules.specs.declared.Row.{Row}
use Rattle.agg_rules.specs.declared.NodeError.{NodeError}
use Rattle.agg_rules.specs.Steps.{Pass, Stand, meets, meets_all, stands, stand_behind}
use Rattle.row_files.specs.RowBytes.{HasRows, row_bytes}
use Rattle.agg_pass.specs.Spilled.{IsOf, KeepsFiles}

-- what was refused stays so
pub meets_all-refused : (budget : ℕ) (refused : NodeError) (rows : List Row) → meets_all budget (Err refused) rows ≡ Err refused
meets_all-refused budget refused [] = refl
meets_all-refused budget refused (row ∷ rows) = refl

-- some rows, and then others
pub meets_all-append : (budget : ℕ) (pass : Result Pass NodeError) (rows more : List Row) → meets_all budget pass (rows ++ more) ≡ meets_all budget (meets_all budget pass rows) more
meets_all-append budget pass [] more = refl
meets_all-append budget (Err refused) (row ∷ rows) more = sym (meets_all-refused budget refused more)
meets_all-append budget (Ok pass) (row ∷ rows) more = meets_all-append budget (meets budget pass row.group) rows more

-- a row at a place parts the rows
pub row_parts : (rows : List Row) (place : ℕ) (row : Row) → slice_get rows place ≡ Some row → (rows ≡ take place rows ++ row ∷ drop (place + 1) rows) × (take (place + 1) rows ≡ take place rows ++ row ∷ [])
row_parts [] place row is = absurd (cc is)
row_parts (x ∷ rows) zero row is = grind (arith, nat_tests)
row_parts (x ∷ rows) (suc place) row is = grind (arith, nat_tests, row_parts rows place row)

-- behind the rows that were met it goes on with the next one
pub stands-append : (budget : ℕ) (before first now : Pass) (rows : List Row) (row : Row) (more : List Row) → meets_all budget (Ok first) rows ≡ Ok now
    → stands budget before (Ok first) (rows ++ row ∷ more) ≡ stands budget now (meets budget now row.group) more
stands-append budget before first now [] row more so = ap (λ (p : Pass). stands budget before (Ok p) (row ∷ more)) (let same : first ≡ now = cc in same)
stands-append budget before first now (r ∷ rows) row more so = by_step (λ pass. stands-append budget first pass now rows row more) (meets budget first r.group) refl
  where
    by_step : ((pass : Pass) → meets_all budget (Ok pass) rows ≡ Ok now → stands budget first (Ok pass) (rows ++ row ∷ more) ≡ stands budget now (meets budget now row.group) more) → (step : Result Pass NodeError) → meets budget first r.group ≡ step
        → stands budget first (meets budget first r.group) (rows ++ row ∷ more) ≡ stands budget now (meets budget now row.group) more
    by_step behind (Ok pass) is = ap (λ s. stands budget first s (rows ++ row ∷ more)) is ∙ behind pass (ap (λ s. meets_all budget s rows) (sym is) ∙ so)
    by_step behind (Err refused) is =
        let clash : Err refused ≡ Ok now = sym (meets_all-refused budget refused rows) ∙ ap (λ s. meets_all budget s rows) (sym is) ∙ so in absurd (cc)

-- a row was refused where a pass stood
abbrev pub stopped : NodeError → Pass → Stand
stopped refused pass = record { pass = pass; refused = Some refused }

-- what was met before, one more, and what comes then
pub meets_all-next : (budget : ℕ) (first now : Pass) (rows : List Row) (place : ℕ) (row : Row) → slice_get rows place ≡ Some row → meets_all budget (Ok first) (take place rows) ≡ Ok now
    → (meets_all budget (Ok first) (take (place + 1) rows) ≡ meets budget now row.group) × ((refused : NodeError) → meets budget now row.group ≡ Err refused → stand_behind budget first rows ≡ record { pass = now; refused = Some refused })
meets_all-next budget first now rows place row is so = (step, stops)
  where
    parts : (rows ≡ take place rows ++ row ∷ drop (place + 1) rows) × (take (place + 1) rows ≡ take place rows ++ row ∷ [])
    parts = row_parts rows place row is

    step : meets_all budget (Ok first) (take (place + 1) rows) ≡ meets budget now row.group
    step = ap (meets_all budget (Ok first)) parts.1 ∙ meets_all-append budget (Ok first) (take place rows) (row ∷ []) ∙ ap (λ p. meets_all budget p (row ∷ [])) so

    stops : (refused : NodeError) → meets budget now row.group ≡ Err refused → stand_behind budget first rows ≡ record { pass = now; refused = Some refused }
    stops refused met =
        ap (stand_behind budget first) parts.0 ∙ stands-append budget first first now (take place rows) row (drop (place + 1) rows) so
        ∙ ap (λ p. stands budget now p (drop (place + 1) rows)) met

-- a file that isn't the pass's own keeps its rows
pub rows_stay : (s t : Temp) (was now : Option ℕ) (file : ℕ) (rows : List Row) → was ≡ None → KeepsFiles (IsOf was) s (IsOf now) t → HasRows s file rows → HasRows t file rows
rows_stay s t was now file rows none keeps has = record {
  bytes = ((keeps file (flat_map row_bytes rows)).0 (has.bytes, λ own. let clash : None ≡ Some file = sym none ∙ own in absurd (cc))).0;
  numbers = has.numbers;
}
