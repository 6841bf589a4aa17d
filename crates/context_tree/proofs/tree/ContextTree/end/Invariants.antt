-- What was done and what is left.
use Rattle.context_tree.proofs.Words.{size, Ended}
use Rattle.context_tree.proofs.Lemmas.{Ending}
use Rattle.context_tree.proofs.tree.ContextTree.end.Given as goal

abbrev pub invariant-loop-root : goal.invariant-loop-root
invariant-loop-root g l =
    (e : Ended) × Ending e l.fn.self.account l.fn.self.kept l.nodes.forest l.initial.space l.space l.initial.shelf l.shelf × g.E.Emit.emits l.initial.out e.events l.out

abbrev pub decreases-loop-root : goal.decreases-loop-root
decreases-loop-root g l = size l.nodes.forest
