use Rattle.std.proofs.Common.{arith}
use Rattle.forest.proofs.Mapped.{mapped-size}
use Rattle.owner_core.proofs.owners.Owners.count.Goals as goal
use Rattle.std.proofs.lemmas.Bool.Decides.{nat_tests}

pub returns-clause-count : goal.returns-clause-count
returns-clause-count c = grind (arith, nat_tests, mapped-size, c.self.view_is, c.len.ensures.value)
