use Rattle.std.proofs.Common.{arith}
use Rattle.owner_kinds.specs.KindShelf.{table_of}
use Rattle.owner_items.proofs.Parts.{rank-rows}
use Rattle.owner_items.proofs.held.Held.is_ready.Goals as goal
use Rattle.std.proofs.lemmas.Bool.Decides.{nat_tests}

pub returns-in-Some : goal.returns-in-Some
returns-in-Some g c that = grind (arith, nat_tests, rank-rows (table_of c.args.kinds.now) c.args.phase, c.requires.state, c.is_for.ensures.rows, c.is_for.ensures.phase)
