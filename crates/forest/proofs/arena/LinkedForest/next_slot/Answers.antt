use Rattle.std.proofs.Common.{arith}
use Rattle.forest.proofs.Seen.{vacant_is}
use Rattle.forest.proofs.arena.LinkedForest.next_slot.Goals as goal

pub returns-clause-some : goal.returns-clause-some
returns-clause-some g c = grind (arith, vacant_is, c.vacant_key.ensures.value, c.self.view_is, c.slot_at.ensures.some)

pub returns-clause-none : goal.returns-clause-none
returns-clause-none g c = grind (arith, vacant_is, c.vacant_key.ensures.value, c.self.view_is, c.slot_at.ensures.none)
