use Rattle.std.proofs.Common.{◌≡◌, ◌∷◌, [], ◌++◌, List, Some, inl, inr, arith, sym, ap, ◌∙◌, subst}
use Rattle.std.specs.Prelude.{slice_get}
use Rattle.agg_rules.specs.declared.Row.{Row}
use Rattle.agg_rules.specs.Steps.{Pass, meets}
use Rattle.agg_pass.specs.PassState.{Spends, way_of}
use Rattle.agg_pass.proofs.Files.{KeepsFiles-more}
use Rattle.agg_pass.proofs.Spending.{Spends-more}
use Rattle.addr_space.proofs.Steps.{Moves-more}
use Rattle.exec_agg.proofs.InOrder.{meets_all-next, row_parts, rows_stay, stopped}
use Rattle.exec_agg.proofs.over.go_over.Goals as goal

pub row_at-row-requires : goal.row_at-row-requires
row_at-row-requires c = (c.args.rows.now.entries, rows_stay _ _ _ _ c.args.file _ c.requires.no_file c.loop-at.invariant.others c.requires.rows, omega (arith, c.loop-at-test.true, c.loop-at.invariant.count))

pub returns-in-Err-clause-others : goal.returns-in-Err-clause-others
returns-in-Err-clause-others c = KeepsFiles-more _ _ _ c.args.temp.now c.loop-at.temp c.meet.new.temp c.loop-at.invariant.others c.meet.ensures.others

pub returns-in-Err-clause-refused : goal.returns-in-Err-clause-refused
returns-in-Err-clause-refused c =
    let rows : List Row = c.args.rows.now.entries in
    let there : slice_get rows c.loop-at.at ≡ Some c.row_at-row.result =
    c.row_at-row.ensures rows (rows_stay _ _ _ _ c.args.file _ c.requires.no_file c.loop-at.invariant.others c.requires.rows) (omega (arith, c.loop-at-test.true, c.loop-at.invariant.count)) in
    let now : Pass = way_of c.loop-at.pass c.loop-at.space c.loop-at.temp in
    let next = meets_all-next c.args.pass.now.budget (way_of c.args.pass.now c.args.space.now c.args.temp.now) now rows c.loop-at.at c.row_at-row.result there c.loop-at.invariant.went in
    elim c.in-Err.ensures.refused [
      | inl memory ↦ inl memory
      | inr refused ↦ inr (next.1 c.in-Err.refused (ap (λ b. meets b now c.row_at-row.result.group) (sym c.loop-at.invariant.budget) ∙ refused) ∙ ap (stopped c.in-Err.refused) (sym c.in-Err.ensures.err_way))
    ]

pub loop-at-preserved : goal.loop-at-preserved
loop-at-preserved c =
    let rows : List Row = c.args.rows.now.entries in
    let there : slice_get rows c.loop-at.at ≡ Some c.row_at-row.result =
    c.row_at-row.ensures rows (rows_stay _ _ _ _ c.args.file _ c.requires.no_file c.loop-at.invariant.others c.requires.rows) (omega (arith, c.loop-at-test.true, c.loop-at.invariant.count)) in
    let first : Pass = way_of c.args.pass.now c.args.space.now c.args.temp.now in
    let now : Pass = way_of c.loop-at.pass c.loop-at.space c.loop-at.temp in
    let next = meets_all-next c.args.pass.now.budget first now rows c.loop-at.at c.row_at-row.result there c.loop-at.invariant.went in
    record {
      within = omega (arith, c.loop-at-test.true);
      count = c.loop-at.invariant.count;
      rows = c.in_default.ensures.rows ∙ ap (λ rs. rs ++ c.row_at-row.result ∷ []) c.loop-at.invariant.rows ∙ sym (row_parts rows c.loop-at.at c.row_at-row.result there).1;
      budget = c.meet.ensures.budget ∙ c.loop-at.invariant.budget;
      totals = c.meet.ensures.totals;
      spilled = c.meet.ensures.spilled;
      moves = Moves-more _ _ _ _ _ _ c.loop-at.invariant.moves c.meet.ensures.moves;
      limit = c.meet.ensures.limit ∙ c.loop-at.invariant.limit;
      others = KeepsFiles-more _ _ _ c.args.temp.now c.loop-at.temp c.meet.new.temp c.loop-at.invariant.others c.meet.ensures.others;
      went = next.0 ∙ ap (λ b. meets b now c.row_at-row.result.group) (sym c.loop-at.invariant.budget) ∙ c.in_default.ensures.went;
      spends =
          Spends-more c.args.pass.now.groups.state.layout.account first now (way_of c.meet.new.self c.meet.new.space c.meet.new.temp) c.args.space.now c.loop-at.space c.meet.new.space c.args.temp.now c.loop-at.temp c.meet.new.temp
          c.loop-at.invariant.spends
          (subst (λ a. Spends a now (way_of c.meet.new.self c.meet.new.space c.meet.new.temp) c.loop-at.space c.meet.new.space c.loop-at.temp c.meet.new.temp) c.loop-at.invariant.moves.account c.meet.ensures.spends);
    }
