use Rattle.std.proofs.Common.{arith}
use Rattle.owner_items.proofs.Linked.{live-length, reverse-length}
use Rattle.owner_items.proofs.Parts.{all-length}
use Rattle.owner_items.proofs.held.Held.len.Goals as goal

pub overflow_add-result : goal.overflow_add-result
overflow_add-result c = grind (arith, live-length, reverse-length, c.requires.counted, c.requires.room)

pub returns : goal.returns
returns c = grind (arith, all-length, c.requires.counted)
