use Rattle.std.proofs.Common.{sym, ap, ◌∙◌, arith}
use Rattle.forest.specs.Forest.{Forest, has}
use Rattle.forest.proofs.Calls.{forest_is}
use Rattle.forest.proofs.Numbers.{has_agreed}
use Rattle.forest.proofs.Seen.{stands_at}
use Rattle.forest.proofs.Walks.{first_step}
use Rattle.forest.proofs.arena.LinkedForest.first_leaf.Goals as goal

pub loop-child-init : goal.loop-child-init
loop-child-init g c = grind (arith, forest_is, c.self.invariant, c.self.view_is, c.self.invariant.by_number, c.requires)

pub loop-child-smaller : goal.loop-child-smaller
loop-child-smaller g c = (first_step c.loop-child.leaf.number c.in-Some.child.number c.args.self.now.forest c.loop-child.invariant.once c.in-Some.ensures.0).1

pub loop-child-preserved : goal.loop-child-preserved
loop-child-preserved g c = grind (arith, first_step, c.loop-child.invariant.once, c.in-Some.ensures.1, c.in-Some.ensures.0, c.loop-child.invariant.same)

pub returns-clause-stands : goal.returns-clause-stands
returns-clause-stands g c =
    let s = c.self.invariant in
    let w = stands_at c.self.inside.nodes c.self.inside.first _ c.args.id s c.self.view_is c.requires in
    ap (λ (f : Forest g.row.T.Denot). has c.args.id.number f) (sym (forest_is c.self.inside.nodes c.self.inside.first _ s c.self.view_is))
    ∙ has_agreed (λ x d. d.value) c.args.id.slot c.args.id.number s.tree w.agree ∙ w.stands
