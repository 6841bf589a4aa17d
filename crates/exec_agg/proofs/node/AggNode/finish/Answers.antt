use Rattle.std.proofs.Common.{ap, ◌∙◌}
use Rattle.exec_agg.specs.Nodes.{Node}
use Rattle.exec_agg.proofs.Standing.{Holds-same, finished}
use Rattle.exec_agg.proofs.node.AggNode.finish.Goals as goal

pub invariant_of-self : goal.invariant_of-self
invariant_of-self c = finished _ c.self.invariant (ap (λ (n : Node). n.stage) c.self.view_is ∙ c.requires.putting)

pub returns-clause-holds : goal.returns-clause-holds
returns-clause-holds c space temp holds = Holds-same c.args.self.now _ space temp (ap (λ (n : Node). n.pass) c.self.view_is) holds
