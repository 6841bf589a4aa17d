-- What was said and what is still to say are the lines of all contexts, and so for the sums.
use Rattle.context_tree.proofs.Base.{◌≡◌, List, ◌++◌, map, length}
use Rattle.context_tree.proofs.Words.{What, preorder, capped, no_total}
use Rattle.context_tree.proofs.Lemmas.{told, all_added}
use Rattle.context_tree.proofs.reporting.report_all.Given as goal

abbrev pub invariant-loop-visit : goal.invariant-loop-visit
invariant-loop-visit g l = record {
  said : (events : List What) × g.E.Emit.emits l.initial.out events l.out
      × (events ++ map told l.walk ≡ map told (preorder 0 l.nodes.forest));
  total : capped (all_added l.total l.walk) ≡ capped (all_added no_total (preorder 0 l.nodes.forest));
}

abbrev pub decreases-loop-visit : goal.decreases-loop-visit
decreases-loop-visit g l = length l.walk
