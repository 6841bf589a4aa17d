use Rattle.std.proofs.Common.{arith}
use Rattle.owner_items.proofs.Indexed.{number-replicate}
use Rattle.owner_items.proofs.index.Index.with_slots.Goals as goal

pub returns-clause-numbers : goal.returns-clause-numbers
returns-clause-numbers c kind key = grind (arith, number-replicate, c.in_ok-vec.ensures.items_if_clones_equal)
