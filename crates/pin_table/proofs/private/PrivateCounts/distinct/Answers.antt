use Rattle.std.proofs.Common.{ap, arith, length}
use Rattle.pin_table.proofs.PartLemmas.{length-merged, length_total}
use Rattle.pin_table.proofs.private.PrivateCounts.distinct.Goals as goal

pub overflow_add-result : goal.overflow_add-result
overflow_add-result c = omega (arith, c.len.ensures.fits, c.distinct.ensures.entries, length_total c.self.inside.rest c.self.invariant.table.counted, c.self.invariant.room)

pub returns : goal.returns
returns c = record { entries = omega (arith, c.len.ensures.value, c.distinct.ensures.entries, length-merged c.self.inside.few.items c.self.inside.rest c.self.invariant, ap length c.self.view_is) }
