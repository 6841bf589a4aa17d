use Rattle.std.proofs.Common.{arith}
use Rattle.forest.proofs.Seen.{is_there, all_once}
use Rattle.forest.proofs.Preorders.{ends_first}
use Rattle.forest.proofs.Moved.{below_parent, above_by_parent, above_none, level_up}
use Rattle.forest.proofs.arena.LinkedForest.is_above.Goals as goal
use Rattle.std.proofs.lemmas.Bool.Decides.{nat_tests}

pub loop-parent-init : goal.loop-parent-init
loop-parent-init g c = grind (arith, nat_tests, all_once c.self.inside.nodes c.self.inside.first, c.self.invariant, c.self.view_is, c.requires.other, c.requires.node)

pub loop-parent-smaller : goal.loop-parent-smaller
loop-parent-smaller g c = grind (arith, level_up, c.loop-parent.invariant.once, c.in-Some.ensures.0)

pub loop-parent-preserved : goal.loop-parent-preserved
loop-parent-preserved g c = grind (arith, above_by_parent, level_up, c.loop-parent.invariant.once, c.in-Some.ensures.1, c.in-Some-next_below.ensures.placed, c.in-Some.ensures.0, c.loop-parent.invariant.same, c.loop-parent.invariant.count, c.in-Some-next_below.ensures.next)

pub returns-then-parent-id : goal.returns-then-parent-id
returns-then-parent-id g c = grind (arith, below_parent, c.loop-parent.invariant.once, c.in-Some.ensures.0, c.loop-parent.invariant.same)

pub returns-in_default-next_below : goal.returns-in_default-next_below
returns-in_default-next_below g c = grind (arith, nat_tests, is_there c.self.inside.nodes c.self.inside.first, ends_first c.args.other.number c.args.id.number c.loop-parent.last.number c.loop-parent.seen.number c.args.self.now.forest c.loop-parent.invariant.once (is_there c.self.inside.nodes c.self.inside.first _ c.args.id c.self.invariant c.self.view_is c.requires.node) c.loop-parent.invariant.same c.loop-parent.invariant.count c.in_default-next_below.ensures.end, c.loop-parent.invariant, c.self.invariant, c.self.view_is, c.requires.node, c.loop-parent.invariant.once, c.loop-parent.invariant.same, c.loop-parent.invariant.count, c.in_default-next_below.ensures.end)

pub returns : goal.returns
returns g c = grind (arith, above_none, c.loop-parent.invariant.once, c.in_default.ensures, c.loop-parent.invariant.same)
