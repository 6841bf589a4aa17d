use Rattle.std.proofs.Common.{◌≡◌, ◌-◌, ◌≤◌, length, take, Ok}
use Rattle.addr_space.specs.Footprint.{Moves}
use Rattle.agg_rules.specs.Steps.{meets_all}
use Rattle.held_groups.specs.Held.{footprint, HasTotals}
use Rattle.agg_pass.specs.PassState.{HasSpilled, Spends, way_of}
use Rattle.agg_pass.specs.Spilled.{IsOf, KeepsFiles}
use Rattle.exec_agg.proofs.over.go_over.Given as goal

abbrev pub invariant-loop-at : goal.invariant-loop-at
invariant-loop-at l =
    record {
      within : l.at ≤ l.count;
      count : l.count ≡ length l.rows.entries;
      rows : l.pass.rows ≡ take l.at l.rows.entries;
      budget : l.pass.budget ≡ l.fn.pass.budget;
      totals : HasTotals l.pass.groups l.space;
      spilled : HasSpilled l.pass l.temp;
      moves : Moves (footprint l.fn.pass.groups) (footprint l.pass.groups) l.fn.space l.space;
      limit : l.temp.limit ≡ l.fn.temp.limit;
      others : KeepsFiles (IsOf l.fn.pass.file) l.fn.temp (IsOf l.pass.file) l.temp;
      went : meets_all l.fn.pass.budget (Ok (way_of l.fn.pass l.fn.space l.fn.temp)) (take l.at l.rows.entries) ≡ Ok (way_of l.pass l.space l.temp);
      spends : Spends l.fn.pass.groups.state.layout.account (way_of l.fn.pass l.fn.space l.fn.temp) (way_of l.pass l.space l.temp) l.fn.space l.space l.fn.temp l.temp;
    }

abbrev pub decreases-loop-at : goal.decreases-loop-at
decreases-loop-at l = l.count - l.at
