-- What one pass adds to what an aggregate comes to.
use Rattle.std.proofs.Common.{◌≡◌, ℕ, zero, suc, ◌+◌, ◌-◌, ◌<◌, ◌≤◌, List, [], ◌∷◌, ◌++◌, length, Option, Some, None, Result, Ok, Err, refl, sym, ap, ◌∙◌, subst, arith}
use Rattle.std.proofs.lemmas.List.{append_assoc, append-nil}
use Rattle.addr_space.specs.Space.{Space, Asks, risen}
use Rattle.addr_space.proofs.Asked.{Asks-more}
use Rattle.temp_store.specs.Temp.{Temp}
use Rattle.bump_ctx.specs.Ledger.{BumpLedger}
use Rattle.agg_rules.specs.declared.Row.{Row}
use Rattle.agg_rules.specs.declared.NodeError.{NodeError}
use Rattle.agg_rules.specs.Passes.{pass_results, spilled_rows}
use Rattle.agg_rules.specs.Steps.{Pass, Stand, meets, meets_all, stands, stand_behind}
use Rattle.agg_rules.proofs.Given.{length-spilled}
use Rattle.agg_pass.specs.PassState.{Spends}
use Rattle.agg_pass.proofs.Spending.{risen-more}
use Rattle.exec_agg.proofs.InOrder.{meets_all-refused}
use Rattle.pgnodes.specs.Plays.{Played, Comes, idle, behind, begun_over, passes_played}
use Rattle.pgnodes.specs.Turns.{Leaves}

-- all rows were met
abbrev went_through : Pass → Stand
went_through pass = record { pass = pass; refused = None }

pub stands-all : (budget : ℕ) (before first last : Pass) (rows : List Row) → meets_all budget (Ok first) rows ≡ Ok last → stands budget before (Ok first) rows ≡ record { pass = last; refused = None }
stands-all budget before first last [] went = ap went_through (let same : first ≡ last = cc in same)
stands-all budget before first last (row ∷ rows) went = by_step (λ pass. stands-all budget first pass last rows) (meets budget first row.group) refl
  where
    by_step : ((pass : Pass) → meets_all budget (Ok pass) rows ≡ Ok last → stands budget first (Ok pass) rows ≡ went_through last) → (step : Result Pass NodeError) → meets budget first row.group ≡ step
        → stands budget first (meets budget first row.group) rows ≡ went_through last
    by_step behind (Ok pass) is = ap (λ s. stands budget first s rows) is ∙ behind pass (ap (λ s. meets_all budget s rows) (sym is) ∙ went)
    by_step behind (Err refused) is =
        let clash : Err refused ≡ Ok last = sym (meets_all-refused budget refused rows) ∙ ap (λ s. meets_all budget s rows) (sym is) ∙ went in absurd (cc)

-- equal parts
same_played : (p q : Played) → p.groups ≡ q.groups → p.refused ≡ q.refused → p.asked ≡ q.asked → p.written ≡ q.written → p ≡ q
same_played p q groups refused asked written =
    ap (λ x. record { groups = x; refused = p.refused; asked = p.asked; written = p.written }) groups
    ∙ ap (λ x. record { groups = q.groups; refused = x; asked = p.asked; written = p.written }) refused
    ∙ ap (λ x. record { groups = q.groups; refused = q.refused; asked = x; written = p.written }) asked
    ∙ ap (λ x. record { groups = q.groups; refused = q.refused; asked = q.asked; written = x }) written

module _ (budget limit room : ℕ) (some : 0 < budget) where
  -- passes enough, whatever their number
  passes_enough : (n m : ℕ) (pass : Pass) (rows : List Row) → length rows ≤ n → length rows ≤ m → passes_played n budget limit room pass rows ≡ passes_played m budget limit room pass rows
  passes_enough zero zero pass rows few less = refl
  passes_enough zero (suc m) pass [] few less = refl
  passes_enough (suc n) zero pass [] few less = refl
  passes_enough (suc n) (suc m) pass [] few less = refl
  passes_enough zero (suc m) pass (row ∷ rows) few less = absurd (omega (arith, few))
  passes_enough (suc n) zero pass (row ∷ rows) few less = absurd (omega (arith, less))
  passes_enough (suc n) (suc m) pass (row ∷ rows) few less =
      let shorter = length-spilled budget row rows some in
      ap (behind pass (stand_behind budget pass (row ∷ rows)).pass (stand_behind budget pass (row ∷ rows)).refused (pass_results budget (row ∷ rows)))
      (passes_enough n m (begun_over limit room (stand_behind budget pass (row ∷ rows)).pass.ledger (spilled_rows budget (row ∷ rows))) (spilled_rows budget (row ∷ rows)) (omega (arith, few, shorter)) (omega (arith, less, shorter)))

  -- what comes behind a pass that met all rows
  abbrev pub later : BumpLedger → List Row → Played
  later ledger rows = passes_played (length (spilled_rows budget rows)) budget limit room (begun_over limit room ledger (spilled_rows budget rows)) (spilled_rows budget rows)

  pub passed_all : (pass last : Pass) (rows : List Row) → stand_behind budget pass rows ≡ record { pass = last; refused = None }
      → passes_played (length rows) budget limit room pass rows ≡ behind pass last None (pass_results budget rows) (later last.ledger rows)
  passed_all pass last [] is =
      let same : pass ≡ last = ap (λ (s : Stand). s.pass) is in
      same_played idle (behind pass last None (pass_results budget []) (later last.ledger [])) none_given refl (omega (arith, ap (λ (p : Pass). p.left) same)) (omega (arith, ap (λ (p : Pass). p.room) same))
    where
      none_given : [] ≡ pass_results budget [] ++ []
      none_given = elim budget as (λ b. [] ≡ pass_results b [] ++ []) [ zero ↦ refl | suc b ↦ refl ]
  passed_all pass last (row ∷ rows) is =
      ap (λ (s : Stand). behind pass s.pass s.refused (pass_results budget (row ∷ rows)) (passes_played (length rows) budget limit room (begun_over limit room s.pass.ledger (spilled_rows budget (row ∷ rows))) (spilled_rows budget (row ∷ rows)))) is
      ∙ ap (behind pass last None (pass_results budget (row ∷ rows)))
      (passes_enough (length rows) (length (spilled_rows budget (row ∷ rows))) (begun_over limit room last.ledger (spilled_rows budget (row ∷ rows))) (spilled_rows budget (row ∷ rows)) (length-spilled budget row rows some) (omega arith))

  -- what a pass comes to that is refused
  pub passed_none : (pass last : Pass) (rows : List Row) (refused : NodeError) → stand_behind budget pass rows ≡ record { pass = last; refused = Some refused }
      → passes_played (length rows) budget limit room pass rows ≡ behind pass last (Some refused) [] idle
  passed_none pass last [] refused is =
      let clash : None ≡ Some refused = ap (λ (s : Stand). s.refused) is in absurd (cc)
  passed_none pass last (row ∷ rows) refused is =
      ap (λ (s : Stand). behind pass s.pass s.refused (pass_results budget (row ∷ rows)) (passes_played (length rows) budget limit room (begun_over limit room s.pass.ledger (spilled_rows budget (row ∷ rows))) (spilled_rows budget (row ∷ rows)))) is

-- one part after another
pub Leaves-more : (p q r : Played) (told more : List (ℕ × ℕ × ℕ)) (s t u : Space) (temp mid temps : Temp) → Leaves p told q s t temp mid → Leaves q more r t u mid temps → Leaves p (told ++ more) r s u temp temps
Leaves-more p q r told more s t u temp mid temps first second =
    record {
      groups = first.groups ∙ ap (λ gs. told ++ gs) second.groups ∙ sym (append_assoc told more r.groups);
      refused = first.refused ∙ second.refused;
      asked = (first.asked.0 + second.asked.0, omega (arith, first.asked.1, second.asked.1), Asks-more 0 first.asked.0 second.asked.0 s t u first.asked.2 second.asked.2);
      written =
          (first.written.0 + second.written.0, omega (arith, first.written.1, second.written.1), second.written.2 ∙ ap (λ c. risen c second.written.0) first.written.2 ∙ risen-more temp.written first.written.0 second.written.0);
    }

-- nothing was taken
pub Leaves-still : (p q : Played) (told : List (ℕ × ℕ × ℕ)) (s t : Space) (temp temps : Temp) → p.groups ≡ told ++ q.groups → p.refused ≡ q.refused → p.asked ≡ q.asked → p.written ≡ q.written → t ≡ s → temps ≡ temp → Leaves p told q s t temp temps
Leaves-still p q told s t temp temps groups refused asked written still same = record {
  groups = groups;
  refused = refused;
  asked = (0, omega (arith, asked), ap (λ (x : Space). x.taken) still);
  written = (0, omega (arith, written), ap (λ (x : Temp). x.written) same);
}

-- all was done
pub Comes-of : (p : Played) (refused : Option NodeError) (told before after : List (ℕ × ℕ × ℕ)) (s t : Space) (temp temps : Temp) → Leaves p told (record idle { refused = refused }) s t temp temps → after ≡ before ++ told → Comes p refused before after s t temp temps
Comes-of p refused told before after s t temp temps leaves is =
    record {
      refused_by = leaves.refused;
      told = is ∙ ap (λ gs. before ++ gs) (sym (leaves.groups ∙ append-nil told));
      asked = subst (λ n. Asks 0 n s t) (omega (arith, leaves.asked.1)) leaves.asked.2;
      written = leaves.written.2 ∙ ap (risen temp.written) (omega (arith, leaves.written.1));
    }

-- a pass was refused, and what it took until then
pub Leaves-refused : (first last : Pass) (refused : NodeError) (s t : Space) (temp temps : Temp) → Spends 0 first last s t temp temps → Leaves (behind first last (Some refused) [] idle) [] (record idle { refused = Some refused }) s t temp temps
Leaves-refused first last refused s t temp temps spends = record {
  groups = refl;
  refused = refl;
  asked = (first.left - last.left, omega arith, spends.asked);
  written = (first.room - last.room, omega arith, spends.written);
}

-- a pass met all its rows, and some of its groups were told
pub Leaves-passed : (first last : Pass) (told rest : List (ℕ × ℕ × ℕ)) (next : Played) (s t : Space) (temp temps : Temp) → Spends 0 first last s t temp temps → Leaves (behind first last None (told ++ rest) next) told (record next { groups = rest ++ next.groups }) s t temp temps
Leaves-passed first last told rest next s t temp temps spends = record {
  groups = append_assoc told rest next.groups;
  refused = refl;
  asked = (first.left - last.left, refl, spends.asked);
  written = (first.room - last.room, refl, spends.written);
}
