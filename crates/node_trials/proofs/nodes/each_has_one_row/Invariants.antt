use Rattle.std.proofs.Common.{◌≡◌, ◌-◌}
use Rattle.exec_agg.specs.declared.stage.Stage.TheVariants.{Giving}
use Rattle.exec_agg.specs.Nodes.{Holds}
use Rattle.node_trials.proofs.nodes.each_has_one_row.Given as goal

abbrev pub invariant-loop-at : goal.invariant-loop-at
invariant-loop-at l =
    record {
      giving : l.node.stage ≡ Giving;
      holds : Holds l.node l.space l.temp;
    }

abbrev pub decreases-loop-at : goal.decreases-loop-at
decreases-loop-at l = l.groups - l.at
