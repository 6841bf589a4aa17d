use Rattle.pin_table.proofs.PartLemmas.{no_parts}
use Rattle.pin_table.proofs.private.PrivateCounts.new.Goals as goal

pub invariant_of-result : goal.invariant_of-result
invariant_of-result c = no_parts c.new.result.items c.new-rest.result c.new.ensures c.new-rest.ensures.empty c.laws.ensures.counts
