use Rattle.std.proofs.Common.{arith}
use Rattle.forest.proofs.Calls.{forest_is}
use Rattle.forest.proofs.Walks.{goes_beside, goes_over}
use Rattle.forest.proofs.Seen.{named_or}
use Rattle.forest.proofs.arena.LinkedForest.following.Goals as goal

pub returns-in-Some-clause-number : goal.returns-in-Some-clause-number
returns-in-Some-clause-number g c = grind (arith, forest_is, goes_beside, c.self.invariant, c.self.view_is, c.self.invariant.by_number, c.first_leaf.ensures.number, c.requires.below, c.in-Some.ensures.0)

pub returns-in-None-clause-number : goal.returns-in-None-clause-number
returns-in-None-clause-number g c = grind (arith, forest_is, named_or, goes_over, c.self.invariant, c.self.view_is, c.self.invariant.by_number, c.unwrap_or.ensures, c.parent.ensures, c.requires.below, c.in-None.ensures)
