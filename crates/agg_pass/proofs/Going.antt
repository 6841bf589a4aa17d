-- What holds of a pass that met one row more.
use Rattle.std.proofs.Common.{◌≡◌, ℕ, ◌-◌, ◌<◌, ◌≤◌, Bool, true, false, cond, ◌||◌, nat_eq, nat_lt, List, [], ◌∷◌, ◌++◌, length, Option, Result, Ok, Err, IsOk, is_ok, refl, sym, ap, ◌∙◌, subst, arith}
use Rattle.std.specs.List.{list_any}
use Rattle.std.proofs.lemmas.Bool.{eq-eqb, lt-ltb, le-ltb, le-leb, lt-leb}
use Rattle.std.proofs.lemmas.List.{append-nil, length-append}
use Rattle.std.proofs.lemmas.List.Folds.{list_any-append}
use Rattle.temp_store.specs.Temp.{Temp}
use Rattle.bump_ctx.specs.Ledger.{take}
use Rattle.agg_rules.specs.declared.Row.{Row}
use Rattle.agg_rules.specs.declared.NodeError.{NodeError}
use Rattle.agg_rules.specs.declared.NodeError.TheVariants.{Full}
use Rattle.agg_rules.specs.Rows.{groups_of}
use Rattle.agg_rules.specs.Passes.{kept_groups, spilled_rows}
use Rattle.agg_rules.specs.Steps.{Pass, joined, holds_more, spills_more, meets}
use Rattle.agg_rules.proofs.Filters.{length-filter_le}
use Rattle.agg_rules.proofs.More.{kept_groups-more}
use Rattle.row_files.specs.RowBytes.{HasRows}
use Rattle.held_groups.specs.Held.{Held}
use Rattle.agg_pass.specs.PassState.{PassState, IsPass, HasSpilled, held_rows}
use Rattle.agg_pass.specs.Spilled.{Spilled}
use Rattle.agg_pass.proofs.HeldRows.{groups_of-held, held_rows-more, spilled_more}

-- the groups that are held are those of the pass
pub groups_of-pass : (p : PassState) → IsPass p → groups_of p.groups.rows ≡ kept_groups p.budget p.rows
groups_of-pass p is = ap groups_of is.joined ∙ groups_of-held p.budget p.rows

-- whether the row's group is held then
Meets : ℕ → List Row → Row → Bool → Type 0
Meets budget rows row c = list_any (nat_eq row.group) (kept_groups budget (rows ++ row ∷ [])) ≡ c

now_by : (budget : ℕ) (rows : List Row) (row : Row) (now : List ℕ) → joined budget (kept_groups budget rows) row.group ≡ now → list_any (nat_eq row.group) (kept_groups budget (rows ++ row ∷ [])) ≡ list_any (nat_eq row.group) now
now_by budget rows row now is = ap (list_any (nat_eq row.group)) (kept_groups-more budget rows row ∙ is)

module _ (budget : ℕ) (rows : List Row) (row : Row) where
  abbrev kept : List ℕ
  kept = kept_groups budget rows

  abbrev by_test : Bool → Bool → List ℕ
  by_test a b = cond a kept (cond b (kept ++ row.group ∷ []) kept)

  pub in-there : list_any (nat_eq row.group) kept ≡ true → list_any (nat_eq row.group) (kept_groups budget (rows ++ row ∷ [])) ≡ true
  in-there there = now_by budget rows row kept (ap (λ a. by_test a (nat_lt (length kept) budget)) there) ∙ there

  pub in-new : list_any (nat_eq row.group) kept ≡ false → length kept < budget → list_any (nat_eq row.group) (kept_groups budget (rows ++ row ∷ [])) ≡ true
  in-new fresh room =
      now_by budget rows row (kept ++ row.group ∷ []) (ap (λ a. by_test a (nat_lt (length kept) budget)) fresh ∙ ap (λ b. cond b (kept ++ row.group ∷ []) kept) (lt-ltb (length kept) budget room))
      ∙ list_any-append (nat_eq row.group) kept (row.group ∷ []) ∙ ap (λ b. list_any (nat_eq row.group) kept || (b || false)) (eq-eqb row.group row.group refl)
      ∙ ap (λ b. b || true) fresh

  pub in-over : list_any (nat_eq row.group) kept ≡ false → budget ≤ length kept → list_any (nat_eq row.group) (kept_groups budget (rows ++ row ∷ [])) ≡ false
  in-over fresh full =
      now_by budget rows row kept (ap (λ a. by_test a (nat_lt (length kept) budget)) fresh ∙ ap (λ b. cond b (kept ++ row.group ∷ []) kept) (le-ltb (length kept) budget full)) ∙ fresh

-- a row of a group that is held then was joined
pub IsPass-in : (p : PassState) (row : Row) (groups : Held) → IsPass p → groups.rows ≡ p.groups.rows ++ row ∷ [] → list_any (nat_eq row.group) (kept_groups p.budget (p.rows ++ row ∷ [])) ≡ true → length p.rows < 100000
    → IsPass (record { budget = p.budget; rows = p.rows ++ row ∷ []; file = p.file; groups = groups })
IsPass-in p row groups is joins held few = record {
  joined = joins ∙ ap (λ rs. rs ++ row ∷ []) is.joined ∙ sym (held_rows-more p.budget p.rows row true held);
  no_file = λ none. spilled_more p.budget p.rows row true held ∙ append-nil (spilled_rows p.budget p.rows) ∙ is.no_file none;
  few = omega (arith, few, length-append p.rows (row ∷ []));
}

pub HasSpilled-in : (p : PassState) (row : Row) (groups : Held) (temp : Temp) → list_any (nat_eq row.group) (kept_groups p.budget (p.rows ++ row ∷ [])) ≡ true → HasSpilled p temp
    → HasSpilled (record { budget = p.budget; rows = p.rows ++ row ∷ []; file = p.file; groups = groups }) temp
HasSpilled-in p row groups temp held has number is =
    subst (HasRows temp number) (sym (spilled_more p.budget p.rows row true held ∙ append-nil (spilled_rows p.budget p.rows))) (has number is)

-- a row of another group was spilled
pub IsPass-over : (p : PassState) (row : Row) (file : Option ℕ) (temp : Temp) → IsPass p → Spilled temp file (spilled_rows p.budget p.rows ++ row ∷ []) → list_any (nat_eq row.group) (kept_groups p.budget (p.rows ++ row ∷ [])) ≡ false → length p.rows < 100000
    → IsPass (record { budget = p.budget; rows = p.rows ++ row ∷ []; file = file; groups = p.groups })
IsPass-over p row file temp is spilled other few = record {
  joined = is.joined ∙ sym (held_rows-more p.budget p.rows row false other ∙ append-nil (held_rows p.budget p.rows));
  no_file = λ none. spilled_more p.budget p.rows row false other ∙ spilled.none none;
  few = omega (arith, few, length-append p.rows (row ∷ []));
}

pub HasSpilled-over : (p : PassState) (row : Row) (file : Option ℕ) (temp : Temp) → Spilled temp file (spilled_rows p.budget p.rows ++ row ∷ []) → list_any (nat_eq row.group) (kept_groups p.budget (p.rows ++ row ∷ [])) ≡ false
    → HasSpilled (record { budget = p.budget; rows = p.rows ++ row ∷ []; file = file; groups = p.groups }) temp
HasSpilled-over p row file temp spilled other number is = subst (HasRows temp number) (sym (spilled_more p.budget p.rows row false other)) (spilled.rows_in_file number is)

-- only the file was made
pub IsPass-file : (p : PassState) (file : Option ℕ) (temp : Temp) → IsPass p → Spilled temp file (spilled_rows p.budget p.rows) → IsPass (record { budget = p.budget; rows = p.rows; file = file; groups = p.groups })
IsPass-file p file temp is spilled = record { joined = is.joined; no_file = spilled.none; few = is.few }

-- what was spilled is in the file
pub Spilled-pass : (p : PassState) (temp : Temp) → IsPass p → HasSpilled p temp → Spilled temp p.file (spilled_rows p.budget p.rows)
Spilled-pass p temp is has = record { rows_in_file = has; none = is.no_file }

-- what the rules say of a row
module _ (budget : ℕ) (pass : Pass) (group : ℕ) where
  abbrev by_tests : Bool → Bool → Result Pass NodeError
  by_tests a b = cond a (Ok pass) (cond b (holds_more pass group (take pass.ledger pass.left 24)) (spills_more pass))

  pub meets-there : list_any (nat_eq group) pass.kept ≡ true → meets budget pass group ≡ Ok pass
  meets-there there = ap (λ a. by_tests a (nat_lt (length pass.kept) budget)) there

  pub meets-new : list_any (nat_eq group) pass.kept ≡ false → length pass.kept < budget → meets budget pass group ≡ holds_more pass group (take pass.ledger pass.left 24)
  meets-new fresh room = ap (λ a. by_tests a (nat_lt (length pass.kept) budget)) fresh ∙ ap (λ b. by_tests false b) (lt-ltb (length pass.kept) budget room)

  pub meets-over : list_any (nat_eq group) pass.kept ≡ false → budget ≤ length pass.kept → meets budget pass group ≡ spills_more pass
  meets-over fresh full = ap (λ a. by_tests a (nat_lt (length pass.kept) budget)) fresh ∙ ap (λ b. by_tests false b) (le-ltb (length pass.kept) budget full)

  pub spills-room : 8 ≤ pass.room → IsOk (spills_more pass)
  spills-room room = ap (λ c. is_ok (cond c (Ok (record pass { room = pass.room - 8 })) (Err Full))) (le-leb 8 pass.room room)

  pub spills-full : pass.room < 8 → spills_more pass ≡ Err Full
  spills-full full = ap (λ c. cond c (Ok (record pass { room = pass.room - 8 })) (Err Full)) (lt-leb 8 pass.room full)

-- no more rows are held than there are
pub few_held : (p : PassState) → IsPass p → length p.rows < 100000 → length p.groups.rows < 100000
few_held p is few = omega (arith, few, ap (λ (rs : List Row). length rs) is.joined, length-filter_le (λ (row : Row). list_any (nat_eq row.group) (kept_groups p.budget p.rows)) p.rows)
