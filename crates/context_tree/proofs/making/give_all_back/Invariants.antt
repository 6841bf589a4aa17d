-- What is left agrees with the space, and what was given back made it move.
use Rattle.context_tree.proofs.Base.{◌≡◌, ℕ, Some}
use Rattle.context_tree.proofs.Words.{Asks, at, size, Kept, IsSoundContext, Agrees, Moves, bare}
use Rattle.context_tree.proofs.making.give_all_back.Given as goal

abbrev pub invariant-loop-root : goal.invariant-loop-root
invariant-loop-root g l = record {
  agrees : (account : ℕ) × Agrees (bare account l.nodes.forest) l.space;
  each : (n : ℕ) (k : Kept) → at n l.nodes.forest ≡ Some k → IsSoundContext k;
  asked : (account : ℕ) → Asks account 0 l.initial.space l.space;
  moves : (account : ℕ) → Agrees (bare account l.initial.nodes.forest) l.initial.space → Moves (bare account l.initial.nodes.forest) (bare account l.nodes.forest) l.initial.space l.space;
}

abbrev pub decreases-loop-root : goal.decreases-loop-root
decreases-loop-root g l = size l.nodes.forest
