use Rattle.std.proofs.Common.{ap, sym, subst, ◌∙◌, length}
use Rattle.std.specs.Ordering.{nat_cmp}
use Rattle.counts.specs.Counts.{Tallies}
use Rattle.pin_table.proofs.pins.PinTable.laws.Goals as goal

pub returns-clause-different : goal.returns-clause-different
returns-clause-different c buffers tallies = ap length (sym c.self.view_is) ∙ c.laws.ensures.different buffers (subst (λ v. Tallies nat_cmp buffers v) (sym c.self.view_is) tallies)
