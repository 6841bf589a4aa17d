use Rattle.std.proofs.Common.{◌≡◌, ◌++◌, map, take, drop}
use Rattle.snap_table.specs.Snapshots.{lowered}
use Rattle.snap_table.proofs.table.lower_level.Given as goal

abbrev pub invariant-loop-at : goal.invariant-loop-at
invariant-loop-at l = l.stack.items ≡ map (lowered l.level) (take l.at l.fn.stack.items) ++ drop l.at l.fn.stack.items
