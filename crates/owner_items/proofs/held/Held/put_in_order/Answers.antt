use Rattle.std.proofs.Common.{sym, subst, arith}
use Rattle.owner_items.specs.ItemList.{AreFalling}
use Rattle.owner_items.proofs.Sums.{in_order}
use Rattle.owner_items.proofs.Parts.{parted-state, gathered-state, sorted-all, moved-count}
use Rattle.owner_items.proofs.held.Held.put_in_order.Goals as goal

pub returns-then-is_none-clause-falling : goal.returns-then-is_none-clause-falling
returns-then-is_none-clause-falling c = grind (arith, parted-state, c.requires.state)

pub returns-then-is_none-clause-all : goal.returns-then-is_none-clause-all
returns-then-is_none-clause-all c = sym (in_order _ (returns-then-is_none-clause-falling c))

pub returns-clause-all : goal.returns-clause-all
returns-clause-all c = grind (arith, sorted-all, gathered-state, c.requires.state, c.requires.falling, c.sort_by_serial.ensures.moved, c.sort_by_serial.ensures.rising)

pub returns-clause-falling : goal.returns-clause-falling
returns-clause-falling c = subst AreFalling (sym (returns-clause-all c)) c.requires.falling

pub returns-clause-live : goal.returns-clause-live
returns-clause-live c = grind (arith, moved-count, c.sort_by_serial.ensures.moved, c.requires.counted)
