use Rattle.std.proofs.Common.{◌<◌, length, arith}
use Rattle.std.proofs.lemmas.List.Edits.{map_over_more}
use Rattle.snap_table.specs.Snapshots.{lowered}
use Rattle.snap_table.proofs.StackLemmas.{lowered_bottom}
use Rattle.snap_table.proofs.table.lower_level.Goals as goal

pub loop-at-init : goal.loop-at-init
loop-at-init c = lowered_bottom c.args.level c.args.from c.args.stack.now.items c.requires.below

pub loop-at-preserved : goal.loop-at-preserved
loop-at-preserved c =
    let within : c.loop-at.at < length c.args.stack.now.items = omega (arith, c.len-at-end.ensures, c.args.stack.now.ok.0, c.loop-at-test.true) in
    rw c.one_lower.ensures (map_over_more (lowered c.args.level) c.args.stack.now.items c.loop-at.stack.items c.loop-at.at c.index.result.now within c.loop-at.invariant c.index.ensures)
