-- What holds of a node behind each call.
use Rattle.std.proofs.Common.{◌≡◌, ℕ, ◌+◌, ◌-◌, ◌*◌, ◌<◌, ◌≤◌, List, [], ◌∷◌, ◌++◌, length, take, drop, Option, Some, None, Result, Ok, Err, OnOk, OnErr, IfErr, ◌⊎◌, inl, inr, refl, ap, sym, ◌∙◌, subst, arith}
use Rattle.std.specs.Prelude.{slice_get, IfNone}
use Rattle.std.proofs.lemmas.List.{drop_all, length-map}
use Rattle.addr_space.specs.Space.{Space, Asks}
use Rattle.addr_space.specs.Footprint.{Agrees}
use Rattle.addr_space.proofs.Asked.{Asks-more}
use Rattle.temp_store.specs.Temp.{Temp, held as stored, file_at, bytes_of}
use Rattle.agg_rules.specs.declared.Row.{Row}
use Rattle.agg_rules.specs.declared.NodeError.{NodeError}
use Rattle.agg_rules.specs.Rows.{results_of, result_of}
use Rattle.agg_rules.specs.Passes.{is_outside, kept_groups, pass_results, spilled_rows}
use Rattle.agg_rules.specs.Steps.{Pass, meets_all, stand_behind}
use Rattle.agg_rules.proofs.Filters.{length-filter_le}
use Rattle.agg_rules.proofs.Given.{results_of-pass}
use Rattle.row_files.specs.RowBytes.{HasRows}
use Rattle.held_groups.specs.Held.{footprint, HasTotals}
use Rattle.agg_pass.specs.PassState.{PassState, HasSpilled, Spends, way_of, anew}
use Rattle.exec_agg.specs.declared.stage.Stage.{Stage}
use Rattle.exec_agg.specs.declared.stage.Stage.TheVariants.{Putting, Giving, Refused}
use Rattle.exec_agg.specs.Nodes.{Node, Holds, Goes, Stops, IsNode, next_pass, way_over}
use Rattle.exec_agg.proofs.InOrder.{stopped}
use Rattle.exec_agg.proofs.Files.{rows_bytes}
use Rattle.exec_agg.proofs.Places.{at_place, behind_place, none_kept, none_left, length-results}

pub not_both : (s : Stage) → s ≡ Giving → s ≡ Putting → ⊥
not_both s giving putting = let clash : Giving ≡ Putting = sym giving ∙ putting in cc

pub was_ok : {A E P : Type 0} (r : Result A E) (stage : Stage) → OnErr r (stage ≡ Refused) → stage ≡ Giving → OnOk r P → P
was_ok (Ok a) stage refused giving p = p
was_ok (Err e) stage refused giving p = let clash : Refused ≡ Giving = sym refused ∙ giving in absurd (cc)

pub not_putting : {A E : Type 0} (r : Result A E) (stage : Stage) → OnOk r (stage ≡ Giving) → OnErr r (stage ≡ Refused) → stage ≡ Putting → ⊥
not_putting (Ok a) stage giving refused putting = not_both stage giving putting
not_putting (Err e) stage giving refused putting = let clash : Refused ≡ Putting = sym refused ∙ putting in cc

module _ (n : Node) (is : IsNode n) where
  -- the puts end
  pub finished : n.stage ≡ Putting → IsNode (record n { stage = Giving })
  finished putting =
      let all = is.putting putting in
      record {
        few = is.few;
        some = is.some;
        putting = λ e. absurd (not_both Giving refl e);
        giving = λ _.
            ap (λ k. drop k (results_of n.rows)) all.1 ∙ results_of-pass n.pass.budget n.rows ∙ ap (λ rows. pass_results n.pass.budget rows ++ results_of (spilled_rows n.pass.budget rows)) (sym all.0)
            ∙ ap (λ k. drop k (pass_results n.pass.budget n.pass.rows) ++ results_of (spilled_rows n.pass.budget n.pass.rows)) (sym all.2);
        within = λ _. (omega (arith, all.1), omega (arith, all.2), omega (arith, ap (λ (rows : List Row). length rows) all.0));
      }

  module _ (giving : n.stage ≡ Giving) where
    abbrev kept : ℕ
    kept = length (kept_groups n.pass.budget n.pass.rows)

    length-pass : length (pass_results n.pass.budget n.pass.rows) ≡ kept
    length-pass = length-map (kept_groups n.pass.budget n.pass.rows) (result_of n.pass.rows)

    -- the next pass met what the one before it spilled
    pub turned : (q : PassState) (stage : Stage) → kept ≤ n.place → q.budget ≡ n.pass.budget → (stage ≡ Putting → ⊥) → (stage ≡ Giving → q.rows ≡ spilled_rows n.pass.budget n.pass.rows)
        → IsNode (record { rows = n.rows; given = n.given; stage = stage; pass = q; place = 0 })
    turned q stage done budget not_puts met =
        let within = is.within giving in
        record {
          few = is.few;
          some = omega (arith, is.some, budget);
          putting = λ e. absurd (not_puts e);
          giving = λ e.
              is.giving giving ∙ ap (λ left. left ++ results_of (spilled_rows n.pass.budget n.pass.rows)) (drop_all n.place (pass_results n.pass.budget n.pass.rows) (omega (arith, done, length-pass)))
              ∙ results_of-pass n.pass.budget (spilled_rows n.pass.budget n.pass.rows)
              ∙ ap (λ rs. pass_results n.pass.budget rs ++ results_of (spilled_rows n.pass.budget rs)) (sym (met e)) ∙ ap (λ b. pass_results b q.rows ++ results_of (spilled_rows b q.rows)) (sym budget);
          within = λ e. (within.0, omega arith, omega (arith, within.2, ap (λ (rs : List Row). length rs) (met e), length-filter_le (λ (row : Row). is_outside (kept_groups n.pass.budget n.pass.rows) row.group) n.pass.rows));
        }

    -- a group of the pass is given
    module _ (group : ℕ × ℕ × ℕ) (there : slice_get (pass_results n.pass.budget n.pass.rows) n.place ≡ Some group) where
      left : drop n.given (results_of n.rows) ≡ group ∷ (drop (n.place + 1) (pass_results n.pass.budget n.pass.rows) ++ results_of (spilled_rows n.pass.budget n.pass.rows))
      left = is.giving giving ∙ ap (λ xs. xs ++ results_of (spilled_rows n.pass.budget n.pass.rows)) (at_place (pass_results n.pass.budget n.pass.rows) n.place group there)

      pub next_group : (slice_get (results_of n.rows) n.given ≡ Some group) × (drop (n.given + 1) (results_of n.rows) ≡ drop (n.place + 1) (pass_results n.pass.budget n.pass.rows) ++ results_of (spilled_rows n.pass.budget n.pass.rows)) × (n.given < length (results_of n.rows))
      next_group = behind_place (results_of n.rows) n.given group _ left

      pub given_one : n.place < kept → IsNode (record { rows = n.rows; given = n.given + 1; stage = n.stage; pass = n.pass; place = n.place + 1 })
      given_one more = record {
        few = is.few;
        some = is.some;
        putting = λ e. absurd (not_both n.stage giving e);
        giving = λ e. next_group.1;
        within = λ e. (omega (arith, next_group.2), omega (arith, more), (is.within giving).2);
      }

    pub few_given : n.given ≤ 100000
    few_given = omega (arith, (is.within giving).0, length-results n.rows, is.few)

    -- all were given
    pub given_all : kept ≤ n.place → results_of (spilled_rows n.pass.budget n.pass.rows) ≡ [] → n.given ≡ length (results_of n.rows)
    given_all done last =
        let none : drop n.given (results_of n.rows) ≡ [] =
        is.giving giving ∙ ap (λ left. left ++ results_of (spilled_rows n.pass.budget n.pass.rows)) (drop_all n.place (pass_results n.pass.budget n.pass.rows) (omega (arith, done, length-pass))) ∙ last in
        omega (arith, none_left (results_of n.rows) n.given none, (is.within giving).0)

-- what the next pass spends, which begins behind a reset
pub Spends-turned : (account own : ℕ) (first begun last : Pass) (s r t : Space) (temp mid temps : Temp) → own ≡ account → begun ≡ first → Asks account 0 s r → Spends own begun last r t temp mid → temps.written ≡ mid.written → Spends account first last s t temp temps
Spends-turned account own first begun last s r t temp mid temps same begins asked spends written =
    let all : Spends account first last r t temp mid = subst (λ b. Spends account b last r t temp mid) begins (subst (λ a. Spends a begun last r t temp mid) same spends) in
    record { less = all.less; fewer = all.fewer; asked = subst (λ k. Asks account k s t) (omega arith) (Asks-more account 0 (first.left - last.left) s r t asked all.asked); written = written ∙ all.written }

-- what the next pass does, which begins behind a reset, and behind which the old file is dropped
module _
    (before after : Node)
    (begun : PassState)
    (s r t : Space)
    (temp mid temps : Temp)
    (file : ℕ)
    (rows : List Row)
    (are : rows ≡ spilled_rows before.pass.budget before.pass.rows)
    (has : HasRows mid file rows)
    (limit : temps.limit ≡ mid.limit)
    (gone : stored temps + length (bytes_of (file_at mid file)) ≡ stored mid)
  where
    -- where it is, the old file is still there
    over_then : way_of after.pass t mid ≡ way_over before after t temps
    over_then =
        let room : mid.limit - stored mid ≡ temps.limit - (stored temps + 8 * length (spilled_rows before.pass.budget before.pass.rows)) = omega (arith, limit, gone, rows_bytes mid file rows has, ap (λ (rs : List Row). length rs) are) in
        ap (λ (k : ℕ). record (way_of after.pass t mid) { room = k }) room

    pub goes_over : begun.budget ≡ before.pass.budget → way_of begun r temp ≡ anew before.pass s temp → begun.groups.state.layout.account ≡ before.pass.groups.state.layout.account → Asks before.pass.groups.state.layout.account 0 s r
        → after.pass.rows ≡ take (length after.pass.rows) rows → meets_all begun.budget (Ok (way_of begun r temp)) after.pass.rows ≡ Ok (way_of after.pass t mid)
        → Spends begun.groups.state.layout.account (way_of begun r temp) (way_of after.pass t mid) r t temp mid → temps.written ≡ mid.written → Goes before after s t temp temps
    goes_over budget way account asked reached went spends written = record {
      met = reached ∙ ap (take (length after.pass.rows)) are;
      went =
          ap (λ b. meets_all b (Ok (anew before.pass s temp)) after.pass.rows) (sym budget) ∙ ap (λ (w : Pass). meets_all begun.budget (Ok w) after.pass.rows) (sym way) ∙ went ∙ ap (λ (w : Pass). Ok w) over_then;
      spends =
          subst (λ (w : Pass). Spends before.pass.groups.state.layout.account (anew before.pass s temp) w s t temp temps) over_then
          (Spends-turned before.pass.groups.state.layout.account begun.groups.state.layout.account (anew before.pass s temp) (way_of begun r temp) (way_of after.pass t mid) s r t temp mid temps account way asked spends written);
    }

    -- what refuses a row
    pub stops_over : {A : Type 0} (answer : Result A NodeError) → begun.budget ≡ before.pass.budget → way_of begun r temp ≡ anew before.pass s temp
        → IfErr answer (λ e. (e ≡ NodeError.Memory) ⊎ (stand_behind begun.budget (way_of begun r temp) rows ≡ record { pass = way_of after.pass t mid; refused = Some e })) → IfErr answer (λ e. (e ≡ NodeError.Memory) ⊎ Stops before after s t temp temps e)
    stops_over (Ok a) budget way stops = tt
    stops_over (Err e) budget way stops =
        elim stops [
          | inl memory ↦ inl memory
          | inr halted ↦
              inr
              (ap (stand_behind before.pass.budget (anew before.pass s temp)) (sym are) ∙ ap (λ b. stand_behind b (anew before.pass s temp) rows) (sym budget) ∙ ap (λ (w : Pass). stand_behind begun.budget w rows) (sym way) ∙ halted
              ∙ ap (stopped e) over_then)
        ]

-- all rows were met
pub went_over : {A E : Type 0} (r : Result A E) (before after : Node) (s t : Space) (temp temps : Temp) (rows : List Row) → rows ≡ spilled_rows before.pass.budget before.pass.rows → OnOk r (after.pass.rows ≡ rows) → Goes before after s t temp temps
    → OnOk r (next_pass before s temp ≡ Ok (way_over before after t temps))
went_over (Ok a) before after s t temp temps rows are all goes = ap (meets_all before.pass.budget (Ok (anew before.pass s temp))) (sym (all ∙ are)) ∙ goes.went
went_over (Err e) before after s t temp temps rows are all goes = tt

pub none_as : {A P : Type 0} (r : Option A) → (r ≡ None → P) → IfNone r P
none_as None f = f refl
none_as (Some x) f = tt

-- Only the pass of a node has anything in the space and the store.
pub Holds-same : (n m : Node) (s : Space) (temp : Temp) → m.pass ≡ n.pass → Holds n s temp → Holds m s temp
Holds-same n m s temp same holds =
    let of_pass : (p : PassState) → p ≡ n.pass → Agrees (footprint p.groups) s × HasTotals p.groups s × HasSpilled p temp = λ p is. subst (λ (q : PassState). Agrees (footprint q.groups) s × HasTotals q.groups s × HasSpilled q temp) (sym is) (holds.agrees, holds.totals, holds.spilled) in
    record { agrees = (of_pass m.pass same).0; totals = (of_pass m.pass same).1; spilled = (of_pass m.pass same).2 }

-- A pass that holds no group spilled nothing.
pub none_spilled : (budget : ℕ) (rows : List Row) → 0 < budget → length (kept_groups budget rows) ≤ 0 → results_of (spilled_rows budget rows) ≡ []
none_spilled budget rows some none = ap (λ rs. results_of (spilled_rows budget rs)) (none_kept budget rows some none)
