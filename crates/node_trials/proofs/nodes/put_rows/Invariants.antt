use Rattle.std.proofs.Common.{◌≡◌, ◌-◌, ◌≤◌, length}
use Rattle.exec_agg.specs.declared.stage.Stage.TheVariants.{Putting}
use Rattle.exec_agg.specs.Nodes.{Holds}
use Rattle.node_trials.proofs.nodes.put_rows.Given as goal

abbrev pub invariant-loop-at : goal.invariant-loop-at
invariant-loop-at l =
    record {
      within : l.at ≤ l.rows;
      putting : l.node.stage ≡ Putting;
      holds : Holds l.node l.space l.temp;
      few : length l.node.rows ≤ l.at;
    }

abbrev pub decreases-loop-at : goal.decreases-loop-at
decreases-loop-at l = l.rows - l.at
