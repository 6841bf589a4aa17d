use Rattle.std.proofs.Common.{sym, subst}
use Rattle.counts.specs.Counts.{Tallies}
use Rattle.ref_table.specs.References.{pair_cmp}
use Rattle.ref_table.proofs.table.RefTable.distinct.Goals as goal

pub returns-clause-different : goal.returns-clause-different
returns-clause-different c pairs tallies = c.distinct.ensures.different pairs (subst (λ v. Tallies pair_cmp pairs v) (sym c.self.view_is) tallies)
