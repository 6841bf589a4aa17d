-- Where a pass is that met rows and was not refused.
use Rattle.std.proofs.Common.{◌≡◌, ℕ, zero, suc, ◌+◌, ◌-◌, ◌*◌, Bool, true, false, cond, ◌||◌, nat_eq, nat_lt, nat_le, List, [], ◌∷◌, ◌++◌, length, Result, Ok, Err, refl, sym, ap, ◌∙◌, subst, arith}
use Rattle.std.specs.List.{list_any}
use Rattle.std.proofs.lemmas.Bool.{eq-eqb, leb-true}
use Rattle.std.proofs.lemmas.List.{append-nil, append_assoc, length-append}
use Rattle.std.proofs.lemmas.List.Folds.{list_any-append}
use Rattle.chunk_header.specs.declared.CtxError.{CtxError}
use Rattle.bump_ctx.specs.Ledger.{BumpTaken, take}
use Rattle.agg_rules.specs.declared.NodeError.{NodeError}
use Rattle.agg_rules.specs.declared.NodeError.TheVariants.{Full}
use Rattle.agg_rules.specs.declared.Row.{Row}
use Rattle.agg_rules.specs.Passes.{kept_groups, spilled_rows}
use Rattle.agg_rules.specs.Steps.{Pass, joined, holds_more, spills_more, meets, meets_all}
use Rattle.agg_rules.proofs.More.{kept_groups-more, spilled_rows-more}

-- a pass that met these rows holds their first groups, and the store lost the room for what was spilled
abbrev pub IsAt : ℕ → ℕ → List Row → Pass → Type 0
IsAt budget room seen pass = (pass.kept ≡ kept_groups budget seen) × (pass.room + 8 * length (spilled_rows budget seen) ≡ room)

abbrev pass_or : Pass → Result Pass NodeError → Pass
pass_or other (Ok pass) = pass
pass_or other (Err refused) = other

-- how many rows are spilled with one row more
length-more : (budget : ℕ) (seen : List Row) (row : Row) (now : List ℕ) (held : Bool) → kept_groups budget (seen ++ row ∷ []) ≡ now → list_any (nat_eq row.group) now ≡ held → length (spilled_rows budget (seen ++ row ∷ [])) ≡ length (spilled_rows budget seen) + cond held 0 1
length-more budget seen row now held same found =
    let spilled = spilled_rows budget seen in
    ap (λ (rs : List Row). length rs) (spilled_rows-more budget seen row ∙ ap (λ k. spilled ++ cond (list_any (nat_eq row.group) k) [] (row ∷ [])) same ∙ ap (λ b. spilled ++ cond b [] (row ∷ [])) found)
    ∙ length-append spilled (cond held [] (row ∷ []))
    ∙ ap (λ n. length spilled + n) (elim held as (λ b. length (cond b [] (row ∷ [])) ≡ cond b 0 1) [ true ↦ refl | false ↦ refl ])

-- a group that was put behind others is among them
found_last : (kept : List ℕ) (g : ℕ) → list_any (nat_eq g) (kept ++ g ∷ []) ≡ true
found_last kept g =
    list_any-append (nat_eq g) kept (g ∷ []) ∙ ap (λ b. list_any (nat_eq g) kept || (b || false)) (eq-eqb g g refl)
    ∙ elim (list_any (nat_eq g) kept) as (λ b. (b || true) ≡ true) [ true ↦ refl | false ↦ refl ]

module _ (budget room : ℕ) (seen : List Row) (row : Row) (pass next : Pass) (at : IsAt budget room seen pass) where
  joins : kept_groups budget (seen ++ row ∷ []) ≡ joined budget pass.kept row.group
  joins = kept_groups-more budget seen row ∙ ap (λ kept. joined budget kept row.group) (sym at.0)

  spilling : (c : Bool) → list_any (nat_eq row.group) pass.kept ≡ false → nat_lt (length pass.kept) budget ≡ false → nat_le 8 pass.room ≡ c → cond c (Ok (record pass { room = pass.room - 8 })) (Err Full) ≡ Ok next → IsAt budget room (seen ++ row ∷ []) next
  spilling true found full fits is =
      let now : kept_groups budget (seen ++ row ∷ []) ≡ pass.kept =
      joins ∙ ap (λ a. cond a pass.kept (cond (nat_lt (length pass.kept) budget) (pass.kept ++ row.group ∷ []) pass.kept)) found ∙ ap (λ b. cond b (pass.kept ++ row.group ∷ []) pass.kept) full in
      let len = length-more budget seen row pass.kept false now found in
      subst (IsAt budget room (seen ++ row ∷ [])) (ap (pass_or pass) is) (sym now, omega (arith, at.1, len, leb-true 8 pass.room fits))
  spilling false found full fits is = absurd (cc)

  by_tests : (a b : Bool) (t : Result BumpTaken CtxError) → list_any (nat_eq row.group) pass.kept ≡ a → nat_lt (length pass.kept) budget ≡ b → cond a (Ok pass) (cond b (holds_more pass row.group t) (spills_more pass)) ≡ Ok next → IsAt budget room (seen ++ row ∷ []) next
  by_tests true b t found below is =
      let now : kept_groups budget (seen ++ row ∷ []) ≡ pass.kept = joins ∙ ap (λ a. cond a pass.kept (cond (nat_lt (length pass.kept) budget) (pass.kept ++ row.group ∷ []) pass.kept)) found in
      let len = length-more budget seen row pass.kept true now found in
      subst (IsAt budget room (seen ++ row ∷ [])) (ap (pass_or pass) is) (sym now, omega (arith, at.1, len))
  by_tests false true (Ok answer) found below is =
      let now : kept_groups budget (seen ++ row ∷ []) ≡ pass.kept ++ row.group ∷ [] =
      joins ∙ ap (λ a. cond a pass.kept (cond (nat_lt (length pass.kept) budget) (pass.kept ++ row.group ∷ []) pass.kept)) found ∙ ap (λ b. cond b (pass.kept ++ row.group ∷ []) pass.kept) below in
      let len = length-more budget seen row (pass.kept ++ row.group ∷ []) true now (found_last pass.kept row.group) in
      subst (IsAt budget room (seen ++ row ∷ [])) (ap (pass_or pass) is) (sym now, omega (arith, at.1, len))
  by_tests false true (Err refused) found below is = absurd (cc)
  by_tests false false t found below is = spilling (nat_le 8 pass.room) found below refl is

  pub step : meets budget pass row.group ≡ Ok next → IsAt budget room (seen ++ row ∷ []) next
  step is = by_tests (list_any (nat_eq row.group) pass.kept) (nat_lt (length pass.kept) budget) (take pass.ledger pass.left 24) refl refl is

refused : (budget : ℕ) (why : NodeError) (rows : List Row) → meets_all budget (Err why) rows ≡ Err why
refused budget why [] = refl
refused budget why (row ∷ rows) = refl

-- the same of many rows
pub all : (budget room : ℕ) (rows seen : List Row) (pass last : Pass) → IsAt budget room seen pass → meets_all budget (Ok pass) rows ≡ Ok last → IsAt budget room (seen ++ rows) last
all budget room [] seen pass last at is = subst (λ rs. IsAt budget room rs last) (sym (append-nil seen)) (subst (IsAt budget room seen) (ap (pass_or pass) is) at)
all budget room (row ∷ rows) seen pass last at is = by_step (meets budget pass row.group) (step budget room seen row pass) is (all budget room rows (seen ++ row ∷ []))
  where
    by_step : (one : Result Pass NodeError) → ((next : Pass) → IsAt budget room seen pass → one ≡ Ok next → IsAt budget room (seen ++ row ∷ []) next) → meets_all budget one rows ≡ Ok last
        → ((next last : Pass) → IsAt budget room (seen ++ row ∷ []) next → meets_all budget (Ok next) rows ≡ Ok last → IsAt budget room ((seen ++ row ∷ []) ++ rows) last)
        → IsAt budget room (seen ++ row ∷ rows) last
    by_step (Ok next) one is rest = subst (λ rs. IsAt budget room rs last) (append_assoc seen (row ∷ []) rows) (rest next last (one next at refl) is)
    by_step (Err why) one is rest = let clash = sym (refused budget why rows) ∙ is in absurd (cc)

begins : (budget : ℕ) (pass : Pass) → pass.kept ≡ [] → IsAt budget pass.room [] pass
begins zero pass empty = (empty, omega arith)
begins (suc n) pass empty = (empty, omega arith)

-- a pass that was not refused holds the first groups of its rows, and spilled the rows of the others
pub holds : (budget : ℕ) (rows : List Row) (pass last : Pass) → pass.kept ≡ [] → meets_all budget (Ok pass) rows ≡ Ok last → last.kept ≡ kept_groups budget rows
holds budget rows pass last empty is = (all budget pass.room rows [] pass last (begins budget pass empty) is).0

pub spills : (budget : ℕ) (rows : List Row) (pass last : Pass) → pass.kept ≡ [] → meets_all budget (Ok pass) rows ≡ Ok last → last.room + 8 * length (spilled_rows budget rows) ≡ pass.room
spills budget rows pass last empty is = (all budget pass.room rows [] pass last (begins budget pass empty) is).1
