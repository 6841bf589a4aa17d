use Rattle.std.proofs.Common.{◌-◌, ◌<◌, length, arith}
use Rattle.snap_table.proofs.StackLemmas.{below_rising}
use Rattle.snap_table.proofs.table.lowest_of.Goals as goal

pub returns-then-stack-at-clause-below : goal.returns-then-stack-at-clause-below
returns-then-stack-at-clause-below c =
    let within : c.loop-at.at - 1 < length c.args.stack.now = omega arith in
    below_rising c.args.level (c.loop-at.at - 1) c.args.stack.now (record { snapshot = 0; level = 0 }) (c.requires c.if-not-rising.false) within c.if-stack-at.true
