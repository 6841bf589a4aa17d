use Rattle.std.proofs.Common.{◌≡◌, ◌⊎◌, ◌∷◌, [], ◌++◌, List, Some, Ok, Err, IfErr, inl, inr, arith, sym, ap, ◌∙◌, subst}
use Rattle.std.proofs.lemmas.List.{take_all}
use Rattle.std.proofs.lemmas.Result.{err_from_is_err_and}
use Rattle.std.specs.Prelude.{slice_get}
use Rattle.addr_space.proofs.Steps.{Moves-more}
use Rattle.agg_rules.specs.declared.Row.{Row}
use Rattle.agg_rules.specs.declared.NodeError.{NodeError}
use Rattle.agg_rules.specs.Steps.{Pass, meets, meets_all, stand_behind}
use Rattle.agg_pass.specs.PassState.{Spends, way_of}
use Rattle.agg_pass.proofs.Files.{KeepsFiles-more}
use Rattle.agg_pass.proofs.Spending.{Spends-more}
use Rattle.exec_agg.proofs.InOrder.{meets_all-next, stopped}
use Rattle.pgnodes.specs.Rows.{rows_made}
use Rattle.pgnodes.proofs.Putting.{length-rows_made, row_there, take-more}
use Rattle.pgnodes.proofs.playing.put_rows.Goals as goal

pub returns-in_err-put-clause-moves : goal.returns-in_err-put-clause-moves
returns-in_err-put-clause-moves c = Moves-more _ _ _ _ _ _ c.loop-place.invariant.moves c.put.ensures.moves

pub returns-in_err-put-clause-others : goal.returns-in_err-put-clause-others
returns-in_err-put-clause-others c = KeepsFiles-more _ _ _ c.args.temp.now c.loop-place.temp c.put.new.temp c.loop-place.invariant.others c.put.ensures.others

pub returns-in_err-put-clause-refused : goal.returns-in_err-put-clause-refused
returns-in_err-put-clause-refused c =
    let e : NodeError = c.in_err-put.field-0.0 in
    let p : c.from_residual.result ≡ Err e = (let q = err_from_is_err_and c.from_residual.result c.from_residual.ensures.1 in cc) in
    let rows : List Row = rows_made c.args.aggregate.now in
    let first : Pass = way_of c.args.node.now.pass c.args.space.now c.args.temp.now in
    let now : Pass = way_of c.loop-place.node.pass c.loop-place.space c.loop-place.temp in
    let there : slice_get rows c.loop-place.place ≡ Some c.row_at-row.result =
    row_there c.args.aggregate.now c.loop-place.place c.loop-place-test.true ∙ ap Some (sym c.row_at-row.ensures) in
    let next = meets_all-next c.args.node.now.pass.budget first now rows c.loop-place.place c.row_at-row.result there c.loop-place.invariant.went in
    subst (λ r. IfErr r (λ x. (x ≡ NodeError.Memory) ⊎ (stand_behind c.args.node.now.pass.budget first rows ≡ stopped x (way_of c.put.new.self.pass c.put.new.space c.put.new.temp)))) (sym p)
    (elim c.in_err-put.ensures.refused [
      | inl memory ↦ inl memory
      | inr halted ↦ inr (next.1 e (ap (λ b. meets b now c.row_at-row.result.group) (sym c.loop-place.invariant.budget) ∙ halted) ∙ ap (stopped e) (sym c.in_err-put.ensures.err_way))
    ])

pub loop-place-preserved : goal.loop-place-preserved
loop-place-preserved c =
    let rows : List Row = rows_made c.args.aggregate.now in
    let first : Pass = way_of c.args.node.now.pass c.args.space.now c.args.temp.now in
    let now : Pass = way_of c.loop-place.node.pass c.loop-place.space c.loop-place.temp in
    let then : Pass = way_of c.put.new.self.pass c.put.new.space c.put.new.temp in
    let there : slice_get rows c.loop-place.place ≡ Some c.row_at-row.result =
    row_there c.args.aggregate.now c.loop-place.place c.loop-place-test.true ∙ ap Some (sym c.row_at-row.ensures) in
    let next = meets_all-next c.args.node.now.pass.budget first now rows c.loop-place.place c.row_at-row.result there c.loop-place.invariant.went in
    record {
      rows = c.in_ok-put.ensures.rows ∙ ap (λ rs. rs ++ c.row_at-row.result ∷ []) c.loop-place.invariant.rows ∙ sym (take-more rows c.loop-place.place c.row_at-row.result there).0;
      met = c.put.ensures.met;
      given = c.put.ensures.given ∙ c.loop-place.invariant.given;
      place = c.put.ensures.place ∙ c.loop-place.invariant.place;
      stage = c.put.ensures.stage;
      budget = c.put.ensures.budget ∙ c.loop-place.invariant.budget;
      holds = c.put.ensures.holds;
      moves = Moves-more _ _ _ _ _ _ c.loop-place.invariant.moves c.put.ensures.moves;
      others = KeepsFiles-more _ _ _ c.args.temp.now c.loop-place.temp c.put.new.temp c.loop-place.invariant.others c.put.ensures.others;
      limit = c.put.ensures.limit ∙ c.loop-place.invariant.limit;
      went = next.0 ∙ ap (λ b. meets b now c.row_at-row.result.group) (sym c.loop-place.invariant.budget) ∙ c.in_ok-put.ensures.went;
      spends =
          Spends-more c.args.node.now.pass.groups.state.layout.account first now then c.args.space.now c.loop-place.space c.put.new.space c.args.temp.now c.loop-place.temp c.put.new.temp c.loop-place.invariant.spends
          (subst (λ a. Spends a now then c.loop-place.space c.put.new.space c.loop-place.temp c.put.new.temp) c.loop-place.invariant.moves.account c.put.ensures.spends);
    }

pub returns-clause-rows : goal.returns-clause-rows
returns-clause-rows c = c.loop-place.invariant.rows ∙ take_all c.loop-place.place (rows_made c.args.aggregate.now) (omega (arith, c.loop-place-test.false, length-rows_made c.args.aggregate.now))

pub returns-clause-went : goal.returns-clause-went
returns-clause-went c =
    ap (meets_all c.args.node.now.pass.budget (Ok (way_of c.args.node.now.pass c.args.space.now c.args.temp.now)))
    (sym (take_all c.loop-place.place (rows_made c.args.aggregate.now) (omega (arith, c.loop-place-test.false, length-rows_made c.args.aggregate.now)))) ∙ c.loop-place.invariant.went
