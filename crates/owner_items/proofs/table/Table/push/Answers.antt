use Rattle.std.proofs.Common.{arith}
use Rattle.owner_items.proofs.Linked.{live-length, reverse-length}
use Rattle.owner_items.proofs.table.Table.push.Goals as goal

pub overflow_add-self : goal.overflow_add-self
overflow_add-self c = grind (arith, live-length, reverse-length, c.requires.table.counted)
