use Rattle.std.proofs.Common.{arith}
use Rattle.forest.proofs.Calls.{forest_is}
use Rattle.forest.proofs.arena.LinkedForest.len.Goals as goal
use Rattle.forest.proofs.Numbers.{size_by}

pub returns-clause-value : goal.returns-clause-value
returns-clause-value g c = grind (arith, size_by, forest_is, c.len.ensures, c.self.invariant.count, c.self.invariant.tree, c.self.invariant, c.self.view_is)

pub returns-clause-once : goal.returns-clause-once
returns-clause-once g c = grind (arith, forest_is, c.self.invariant, c.self.view_is, c.self.invariant.by_number)
