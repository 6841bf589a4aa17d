use Rattle.std.proofs.Common.{arith}
use Rattle.std.proofs.lemmas.Bool.Decides.{nat_tests}
use Rattle.forest.proofs.Seen.{is_there, all_once}
use Rattle.forest.proofs.Preorders.{comes_to, goes_down, head_none, level_small}
use Rattle.forest.proofs.arena.LinkedForest.onward.Goals as goal

pub prove-unreachable-requires : goal.prove-unreachable-requires
prove-unreachable-requires g c = grind (arith, nat_tests, level_small 0 c.args.spot.id.number c.args.self.now.forest, all_once c.self.inside.nodes c.self.inside.first, is_there c.self.inside.nodes c.self.inside.first, c.self.invariant, c.self.view_is, c.requires.placed, c.requires.depth, c.len.ensures.value, c.if-prove.true)

pub returns-in-Some-clause-spot : goal.returns-in-Some-clause-spot
returns-in-Some-clause-spot g c = grind (arith, nat_tests, goes_down 0 c.args.spot.id.number c.in-Some.id.number c.args.self.now.forest, all_once c.self.inside.nodes c.self.inside.first, is_there c.self.inside.nodes c.self.inside.first, c.self.invariant, c.self.view_is, c.requires.placed, c.in-Some.ensures.0, c.in-Some.ensures.1, c.requires.depth)

pub returns-in-Some-clause-left : goal.returns-in-Some-clause-left
returns-in-Some-clause-left g c a q = grind (arith, nat_tests, all_once c.self.inside.nodes c.self.inside.first, goes_down 0 c.args.spot.id.number c.in-Some.id.number c.args.self.now.forest (all_once c.self.inside.nodes c.self.inside.first _ c.self.invariant c.self.view_is), is_there c.self.inside.nodes c.self.inside.first, comes_to 0 c.args.spot.id.number a c.args.self.now.forest (all_once c.self.inside.nodes c.self.inside.first _ c.self.invariant c.self.view_is) q, c.self.invariant, c.self.view_is, c.requires.placed, c.in-Some.ensures.0, c.requires.depth)

pub returns-in-None-clause-left : goal.returns-in-None-clause-left
returns-in-None-clause-left g c a q = grind (arith, all_once, comes_to, head_none, c.self.invariant, c.self.view_is, c.in-None.ensures, c.requires.depth, c.behind.ensures.left)
