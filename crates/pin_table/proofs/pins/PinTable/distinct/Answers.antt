use Rattle.std.proofs.Common.{sym, subst, ◌∙◌}
use Rattle.std.specs.Ordering.{nat_cmp}
use Rattle.counts.specs.Counts.{Tallies}
use Rattle.pin_table.proofs.pins.PinTable.distinct.Goals as goal

pub returns-clause-different : goal.returns-clause-different
returns-clause-different c buffers tallies = c.distinct.ensures.entries ∙ c.laws.ensures.different buffers (subst (λ v. Tallies nat_cmp buffers v) (sym c.self.view_is) tallies)
