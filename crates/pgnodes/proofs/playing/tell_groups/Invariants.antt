use Rattle.std.proofs.Common.{◌≡◌, ◌++◌, ◌-◌, length, take}
use Rattle.addr_space.specs.Footprint.{Moves}
use Rattle.agg_rules.specs.Rows.{results_of}
use Rattle.held_groups.specs.Held.{footprint}
use Rattle.agg_pass.specs.Spilled.{IsOf, KeepsFiles}
use Rattle.exec_agg.specs.declared.stage.Stage.TheVariants.{Giving}
use Rattle.exec_agg.specs.Nodes.{Holds}
use Rattle.pgnodes.specs.Turns.{Alone, Leaves, left_of}
use Rattle.pgnodes.proofs.playing.tell_groups.Given as goal

abbrev pub invariant-loop-group : goal.invariant-loop-group
invariant-loop-group g l =
    record {
      stage : l.node.stage ≡ Giving;
      rows : l.node.rows ≡ l.fn.node.rows;
      holds : Holds l.node l.space l.temp;
      alone : Alone l.node l.space l.temp;
      moves : Moves (footprint l.fn.node.pass.groups) (footprint l.node.pass.groups) l.fn.space l.space;
      others : KeepsFiles (IsOf l.fn.node.pass.file) l.fn.temp (IsOf l.node.pass.file) l.temp;
      limit : l.temp.limit ≡ l.fn.temp.limit;
      told : g.G.Groups.told l.groups ≡ g.G.Groups.told l.fn.groups ++ take l.node.given (results_of l.fn.node.rows);
      leaves : Leaves (left_of l.fn.space.limit l.fn.temp.limit l.fn.node) (take l.node.given (results_of l.fn.node.rows)) (left_of l.space.limit l.temp.limit l.node) l.fn.space l.space l.fn.temp l.temp;
    }

abbrev pub decreases-loop-group : goal.decreases-loop-group
decreases-loop-group g l = length (results_of l.fn.node.rows) - l.node.given
