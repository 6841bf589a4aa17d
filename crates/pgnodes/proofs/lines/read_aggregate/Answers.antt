use Rattle.std.proofs.Common.{◌≡◌, drop, sym, ap, ◌∙◌, arith}
use Rattle.pgnodes.proofs.Cuts.{behind_same, from_groups, from_rows, whole_behind}
use Rattle.pgnodes.proofs.lines.read_aggregate.Goals as goal

pub returns-in_err-rows-clause-none : goal.returns-in_err-rows-clause-none
returns-in_err-rows-clause-none c =
    rw c.from_residual-in_err-rows.ensures (λ a asks.
    let object = c.in_ok-object.ensures.some in
    let behind : c.in_ok-object.numbers.now ≡ from_rows a = behind_same c.in_ok-object.object a.object _ _ (omega (arith, object.2)) (omega (arith, asks.in_range.object)) (sym object.0 ∙ whole_behind 4 _ ∙ ap (drop 4) asks.line_is) in
    c.in_err-rows.ensures.none a.rows (from_groups a) (omega arith) asks.in_range.rows behind)

pub returns-in_err-groups-clause-none : goal.returns-in_err-groups-clause-none
returns-in_err-groups-clause-none c =
    rw c.from_residual-in_err-groups.ensures (λ a asks.
    let object = c.in_ok-object.ensures.some in
    let rows = c.in_ok-rows.ensures.some in
    let first : c.in_ok-object.numbers.now ≡ from_rows a = behind_same c.in_ok-object.object a.object _ _ (omega (arith, object.2)) (omega (arith, asks.in_range.object)) (sym object.0 ∙ whole_behind 4 _ ∙ ap (drop 4) asks.line_is) in
    let behind : c.in_ok-rows.numbers.now ≡ from_groups a = behind_same c.in_ok-rows.rows a.rows _ _ (omega (arith, rows.2)) (omega (arith, asks.in_range.rows)) (sym rows.0 ∙ first) in
    c.in_err-groups.ensures.none a.groups _ asks.in_range.some_groups asks.in_range.groups behind)

pub returns-in_err-budget-clause-none : goal.returns-in_err-budget-clause-none
returns-in_err-budget-clause-none c =
    rw c.from_residual-in_err-budget.ensures (λ a asks.
    let object = c.in_ok-object.ensures.some in
    let rows = c.in_ok-rows.ensures.some in
    let groups = c.in_ok-groups.ensures.some in
    let first : c.in_ok-object.numbers.now ≡ from_rows a = behind_same c.in_ok-object.object a.object _ _ (omega (arith, object.2)) (omega (arith, asks.in_range.object)) (sym object.0 ∙ whole_behind 4 _ ∙ ap (drop 4) asks.line_is) in
    let second : c.in_ok-rows.numbers.now ≡ from_groups a = behind_same c.in_ok-rows.rows a.rows _ _ (omega (arith, rows.2)) (omega (arith, asks.in_range.rows)) (sym rows.0 ∙ first) in
    let behind = behind_same c.in_ok-groups.groups a.groups _ _ (omega (arith, groups.2)) (omega (arith, asks.in_range.groups)) (sym groups.0 ∙ second) in
    c.in_err-budget.ensures.none a.budget asks.in_range.some_budget asks.in_range.budget behind)
