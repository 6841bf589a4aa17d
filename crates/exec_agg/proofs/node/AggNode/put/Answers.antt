use Rattle.std.proofs.Common.{sym, subst}
use Rattle.held_groups.specs.Held.{HasTotals}
use Rattle.agg_pass.specs.PassState.{HasSpilled}
use Rattle.agg_pass.specs.Spilled.{IsOf, KeepsFiles}
use Rattle.exec_agg.specs.Nodes.{Node}
use Rattle.exec_agg.proofs.node.AggNode.put.Goals as goal

pub meet-requires-clause-totals : goal.meet-requires-clause-totals
meet-requires-clause-totals c = subst (λ (n : Node). HasTotals n.pass.groups c.args.space.now) (sym c.self.view_is) c.requires.holds.totals

pub meet-requires-clause-spilled : goal.meet-requires-clause-spilled
meet-requires-clause-spilled c = subst (λ (n : Node). HasSpilled n.pass c.args.temp.now) (sym c.self.view_is) c.requires.holds.spilled

pub returns-in-Err-clause-others : goal.returns-in-Err-clause-others
returns-in-Err-clause-others c = subst (λ (n : Node). KeepsFiles (IsOf n.pass.file) c.args.temp.now (IsOf c.meet.new.self.file) c.meet.new.temp) c.self.view_is c.meet.ensures.others

pub returns-clause-others : goal.returns-clause-others
returns-clause-others c = subst (λ (n : Node). KeepsFiles (IsOf n.pass.file) c.args.temp.now (IsOf c.meet.new.self.file) c.meet.new.temp) c.self.view_is c.meet.ensures.others
