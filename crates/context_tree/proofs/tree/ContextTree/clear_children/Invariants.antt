-- What was done and what is left of the walk.
use Rattle.context_tree.proofs.Words.{size, Ended, stands_for}
use Rattle.context_tree.proofs.Lemmas.{Left}
use Rattle.context_tree.proofs.tree.ContextTree.clear_children.Given as goal

abbrev pub invariant-loop-leaf : goal.invariant-loop-leaf
invariant-loop-leaf g l =
    (e : Ended) × Left e l.at l.leaf l.initial.self l.self l.initial.space l.space l.initial.shelf l.shelf × g.E.Emit.emits l.initial.out e.events l.out

abbrev pub decreases-loop-leaf : goal.decreases-loop-leaf
decreases-loop-leaf g l = size (stands_for l.self l.space)
