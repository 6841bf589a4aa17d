use Rattle.std.proofs.Common.{◌≡◌, take, Ok}
use Rattle.addr_space.specs.Footprint.{Moves}
use Rattle.agg_rules.specs.Steps.{meets_all}
use Rattle.held_groups.specs.Held.{footprint}
use Rattle.agg_pass.specs.PassState.{Spends, way_of}
use Rattle.agg_pass.specs.Spilled.{IsOf, KeepsFiles}
use Rattle.exec_agg.specs.declared.stage.Stage.TheVariants.{Putting}
use Rattle.exec_agg.specs.Nodes.{Holds}
use Rattle.pgnodes.specs.Rows.{rows_made}
use Rattle.pgnodes.proofs.playing.put_rows.Given as goal

abbrev pub invariant-loop-place : goal.invariant-loop-place
invariant-loop-place l =
    record {
      rows : l.node.rows ≡ take l.place (rows_made l.aggregate);
      met : l.node.pass.rows ≡ l.node.rows;
      given : l.node.given ≡ l.fn.node.given;
      place : l.node.place ≡ l.fn.node.place;
      stage : l.node.stage ≡ Putting;
      budget : l.node.pass.budget ≡ l.fn.node.pass.budget;
      holds : Holds l.node l.space l.temp;
      moves : Moves (footprint l.fn.node.pass.groups) (footprint l.node.pass.groups) l.fn.space l.space;
      others : KeepsFiles (IsOf l.fn.node.pass.file) l.fn.temp (IsOf l.node.pass.file) l.temp;
      limit : l.temp.limit ≡ l.fn.temp.limit;
      went : meets_all l.fn.node.pass.budget (Ok (way_of l.fn.node.pass l.fn.space l.fn.temp)) (take l.place (rows_made l.aggregate)) ≡ Ok (way_of l.node.pass l.space l.temp);
      spends : Spends l.fn.node.pass.groups.state.layout.account (way_of l.fn.node.pass l.fn.space l.fn.temp) (way_of l.node.pass l.space l.temp) l.fn.space l.space l.fn.temp l.temp;
    }
