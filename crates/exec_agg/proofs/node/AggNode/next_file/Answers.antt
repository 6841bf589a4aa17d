use Rattle.std.proofs.Common.{◌≡◌, ◌≤◌, [], length, subst}
use Rattle.agg_rules.specs.Passes.{kept_groups, spilled_rows}
use Rattle.exec_agg.specs.Nodes.{Node}
use Rattle.exec_agg.proofs.Standing.{none_as}
use Rattle.exec_agg.proofs.node.AggNode.next_file.Goals as goal

pub returns-else-self-len-clause-none : goal.returns-else-self-len-clause-none
returns-else-self-len-clause-none c =
    none_as c.file.result
    (λ none. subst (λ (n : Node). length (kept_groups n.pass.budget n.pass.rows) ≤ n.place → spilled_rows n.pass.budget n.pass.rows ≡ []) c.self.view_is (λ done. c.file.ensures.none none))
