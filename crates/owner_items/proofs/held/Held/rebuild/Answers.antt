use Rattle.std.proofs.Common.{arith}
use Rattle.owner_items.proofs.Sums.{in_order}
use Rattle.owner_items.proofs.Parts.{parted-falling}
use Rattle.owner_items.proofs.held.Held.rebuild.Goals as goal

pub returns-clause-items : goal.returns-clause-items
returns-clause-items c = grind (arith, in_order, c.push_live.ensures.items, c.deref.ensures.value, c.put_in_order.ensures.all, c.requires.falling)

pub returns-clause-held : goal.returns-clause-held
returns-clause-held c = grind (arith, parted-falling, c.push_live.ensures.items, c.deref.ensures.value, c.put_in_order.ensures.all, c.requires.falling, c.put_in_order.ensures.recent, c.push_live.ensures.table.counted, c.requires.few, c.push_live.ensures.len, c.push_live.ensures.capacity, c.in_ok-table.ensures.room, c.put_in_order.ensures.live, c.push_live.ensures.table)
