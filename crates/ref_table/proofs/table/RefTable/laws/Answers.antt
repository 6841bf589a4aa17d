use Rattle.std.proofs.Common.{ap, sym, subst, ◌∙◌, length}
use Rattle.counts.specs.Counts.{Tallies}
use Rattle.ref_table.specs.References.{pair_cmp}
use Rattle.ref_table.proofs.table.RefTable.laws.Goals as goal

pub returns-clause-different : goal.returns-clause-different
returns-clause-different c pairs tallies = ap length (sym c.self.view_is) ∙ c.laws.ensures.different pairs (subst (λ v. Tallies pair_cmp pairs v) (sym c.self.view_is) tallies)
