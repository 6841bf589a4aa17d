use Rattle.std.proofs.Common.{arith}
use Rattle.forest.proofs.Seen.{is_there, all_once}
use Rattle.forest.proofs.Preorders.{goes_across, goes_up, ends}
use Rattle.forest.proofs.arena.LinkedForest.next_beside.Goals as goal
use Rattle.std.proofs.lemmas.Bool.Decides.{nat_tests}

pub loop-last-init : goal.loop-last-init
loop-last-init g c = grind (arith, nat_tests, all_once c.self.inside.nodes c.self.inside.first, is_there c.self.inside.nodes c.self.inside.first, c.self.invariant, c.self.view_is, c.requires)

pub returns-in-Some-clause-next : goal.returns-in-Some-clause-next
returns-in-Some-clause-next g c = grind (arith, goes_across, c.loop-last.invariant, c.loop-last.invariant.same, c.loop-last.invariant.once, c.loop-last.invariant.stands, c.in-Some.ensures.0)

pub returns-in_err-last-clause-end : goal.returns-in_err-last-clause-end
returns-in_err-last-clause-end g c = grind (arith, ends, c.loop-last.invariant, c.loop-last.invariant.once, c.loop-last.invariant.stands, c.in_default.ensures, c.in_err-last.ensures, c.from_residual.ensures, c.loop-last.invariant.same)

pub loop-last-smaller : goal.loop-last-smaller
loop-last-smaller g c = grind (arith, nat_tests, goes_up 0 c.loop-last.last.number c.in_ok-last.last.number c.args.self.now.forest c.loop-last.invariant.once c.loop-last.invariant.stands c.in_default.ensures c.in_ok-last.ensures.0, c.loop-last.invariant, c.loop-last.invariant.once, c.loop-last.invariant.stands, c.in_default.ensures, c.in_ok-last.ensures.0)

pub loop-last-preserved : goal.loop-last-preserved
loop-last-preserved g c = grind (arith, nat_tests, goes_up 0 c.loop-last.last.number c.in_ok-last.last.number c.args.self.now.forest c.loop-last.invariant.once c.loop-last.invariant.stands c.in_default.ensures c.in_ok-last.ensures.0, c.loop-last.invariant, c.loop-last.invariant.once, c.loop-last.invariant.stands, c.in_default.ensures, c.in_ok-last.ensures.0, c.in_ok-last.ensures.1, c.loop-last.invariant.same)
