use Rattle.std.proofs.Common.{◌≡◌, ◌+◌, ◌≤◌, [], length, Some, slice_get, refl, sym, ap, ◌∙◌, subst, arith}
use Rattle.held_groups.specs.Held.{HasTotals}
use Rattle.agg_rules.specs.Rows.{results_of}
use Rattle.agg_rules.specs.Passes.{kept_groups, spilled_rows}
use Rattle.exec_agg.specs.Nodes.{Node}
use Rattle.exec_agg.proofs.Standing.{few_given, given_all, given_one, next_group}
use Rattle.exec_agg.proofs.node.AggNode.give.Goals as goal

pub result_at-group-requires-clause-totals : goal.result_at-group-requires-clause-totals
result_at-group-requires-clause-totals c = subst (λ (n : Node). HasTotals n.pass.groups c.args.space.now) (sym c.self.view_is) c.requires.holds.1.totals

pub overflow_add-self-then-self-len : goal.overflow_add-self-then-self-len
overflow_add-self-then-self-len c = omega (arith, few_given _ c.self.invariant (ap (λ (n : Node). n.stage) c.self.view_is ∙ c.requires.giving))

pub invariant_of-self : goal.invariant_of-self
invariant_of-self c =
    given_one _ c.self.invariant (ap (λ (n : Node). n.stage) c.self.view_is ∙ c.requires.giving) c.result_at-group.result c.result_at-group.ensures (omega (arith, c.if-self-len.true, c.len.ensures))

pub returns-then-self-len-clause-some : goal.returns-then-self-len-clause-some
returns-then-self-len-clause-some c =
    let next = next_group _ c.self.invariant (ap (λ (n : Node). n.stage) c.self.view_is ∙ c.requires.giving) c.result_at-group.result c.result_at-group.ensures in
    (subst (λ (n : Node). slice_get (results_of n.rows) n.given ≡ Some c.result_at-group.result) c.self.view_is next.0, ap (λ (n : Node). n.given + 1) c.self.view_is)

pub returns-clause-none : goal.returns-clause-none
returns-clause-none c =
    let giving = ap (λ (n : Node). n.stage) c.self.view_is ∙ c.requires.giving in
    let last : (n : Node) → Type 0 = λ n. length (kept_groups n.pass.budget n.pass.rows) ≤ n.place → results_of (spilled_rows n.pass.budget n.pass.rows) ≡ [] in
    let done : length (kept_groups c.self.inside.pass.budget c.self.inside.pass.rows) ≤ c.self.inside.place = omega (arith, c.if-self-len.false, c.len.ensures) in
    (subst (λ (n : Node). n.given ≡ length (results_of n.rows)) c.self.view_is (given_all _ c.self.invariant giving done (subst last (sym c.self.view_is) c.requires.last done)), refl)
