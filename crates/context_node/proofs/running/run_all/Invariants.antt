-- The hooks that ran were said and handed in, and those that wait still fit the shelf.
use Rattle.context_node.proofs.Words.{◌≡◌, ◌≤◌, List, ◌++◌, length, Hook, AreDistinct, held, callbacks, handed_in}
use Rattle.context_node.proofs.running.run_all.Given as goal

abbrev pub invariant-loop-hook : goal.invariant-loop-hook
invariant-loop-hook g l = record {
  ran : (hooks : List Hook) × (hooks ++ l.waiting ≡ l.initial.waiting) × (l.shelf ≡ handed_in hooks l.initial.shelf)
      × g.E.Emit.emits l.initial.out (callbacks l.number hooks) l.out;
  count : length l.waiting ≤ l.shelf.out;
  words : AreDistinct (l.waiting ++ held l.shelf);
}

abbrev pub decreases-loop-hook : goal.decreases-loop-hook
decreases-loop-hook g l = length l.waiting
