use Rattle.std.proofs.Common.{subst}
use Rattle.std.specs.Ordering.{nat_cmp}
use Rattle.std.proofs.lemmas.Cmp.{nat_cmp_total}
use Rattle.counts.specs.Counts.{AreCounts}
use Rattle.counts.proofs.CountLemmas.{length-different}
use Rattle.pin_table.proofs.PartLemmas.{merged_counts}
use Rattle.pin_table.proofs.private.PrivateCounts.laws.Goals as goal

pub returns-clause-counts : goal.returns-clause-counts
returns-clause-counts c = subst (AreCounts nat_cmp) c.self.view_is (merged_counts c.self.inside.few.items c.self.inside.rest c.self.invariant.counted c.self.invariant.table)

pub returns-clause-different : goal.returns-clause-different
returns-clause-different c buffers tallies =
    let counts : AreCounts nat_cmp c.args.self.now = subst (AreCounts nat_cmp) c.self.view_is (merged_counts c.self.inside.few.items c.self.inside.rest c.self.invariant.counted c.self.invariant.table) in
    length-different nat_cmp_total buffers c.args.self.now counts tallies
