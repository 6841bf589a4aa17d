use Rattle.std.proofs.Common.{arith}
use Rattle.owner_items.proofs.Sums.{live-more}
use Rattle.owner_items.proofs.table.Table.push_live.Goals as goal

pub push-requires-clause-room : goal.push-requires-clause-room
push-requires-clause-room c = grind (arith, live-more, c.loop-entry-test.true, c.if-entry.true)

pub push-requires-clause-slots : goal.push-requires-clause-slots
push-requires-clause-slots c = grind (arith, live-more, c.loop-entry-test.true, c.if-entry.true)
