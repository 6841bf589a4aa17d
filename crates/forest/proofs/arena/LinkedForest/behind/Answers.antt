use Rattle.std.proofs.Common.{arith}
use Rattle.forest.proofs.Seen.{is_there, all_once}
use Rattle.forest.proofs.Preorders.{goes_across, goes_up, ends}
use Rattle.forest.proofs.arena.LinkedForest.behind.Goals as goal
use Rattle.std.proofs.lemmas.Bool.Decides.{nat_tests}

pub loop-id-init : goal.loop-id-init
loop-id-init g c = grind (arith, nat_tests, all_once c.self.inside.nodes c.self.inside.first, is_there c.self.inside.nodes c.self.inside.first, c.self.invariant, c.self.view_is, c.requires.placed, c.requires)

pub returns-in-Some-clause-spot : goal.returns-in-Some-clause-spot
returns-in-Some-clause-spot g c = grind (arith, nat_tests, goes_across 0 c.loop-id.last.id.number c.in-Some.id.number c.args.self.now.forest c.loop-id.invariant.once c.loop-id.invariant.stands c.in-Some.ensures.0, c.loop-id.invariant, c.loop-id.invariant.once, c.loop-id.invariant.stands, c.in-Some.ensures.0, c.in-Some.ensures.1, c.loop-id.invariant.spot.depth)

pub returns-in-Some-clause-left : goal.returns-in-Some-clause-left
returns-in-Some-clause-left g c = grind (arith, goes_across, c.loop-id.invariant, c.loop-id.invariant.same, c.loop-id.invariant.once, c.loop-id.invariant.stands, c.in-Some.ensures.0)

pub returns-in_err-id-clause-left : goal.returns-in_err-id-clause-left
returns-in_err-id-clause-left g c = grind (arith, ends, c.loop-id.invariant, c.loop-id.invariant.same, c.loop-id.invariant.once, c.loop-id.invariant.stands, c.in_default.ensures, c.in_err-id.ensures, c.from_residual.ensures)

pub overflow_sub-last : goal.overflow_sub-last
overflow_sub-last g c = grind (arith, nat_tests, goes_up 0 c.loop-id.last.id.number c.in_ok-id.id.number c.args.self.now.forest c.loop-id.invariant.once c.loop-id.invariant.stands c.in_default.ensures c.in_ok-id.ensures.0, c.loop-id.invariant, c.loop-id.invariant.once, c.loop-id.invariant.stands, c.in_default.ensures, c.in_ok-id.ensures.0, c.loop-id.invariant.spot.depth)

pub loop-id-smaller : goal.loop-id-smaller
loop-id-smaller g c = grind (arith, nat_tests, goes_up 0 c.loop-id.last.id.number c.in_ok-id.id.number c.args.self.now.forest c.loop-id.invariant.once c.loop-id.invariant.stands c.in_default.ensures c.in_ok-id.ensures.0, c.loop-id.invariant, c.loop-id.invariant.once, c.loop-id.invariant.stands, c.in_default.ensures, c.in_ok-id.ensures.0, c.loop-id.invariant.spot.depth)

pub loop-id-preserved : goal.loop-id-preserved
loop-id-preserved g c = grind (arith, nat_tests, goes_up 0 c.loop-id.last.id.number c.in_ok-id.id.number c.args.self.now.forest c.loop-id.invariant.once c.loop-id.invariant.stands c.in_default.ensures c.in_ok-id.ensures.0, c.loop-id.invariant, c.loop-id.invariant.once, c.loop-id.invariant.stands, c.in_default.ensures, c.in_ok-id.ensures.0, c.in_ok-id.ensures.1, c.loop-id.invariant.spot.depth, c.loop-id.invariant.same)
