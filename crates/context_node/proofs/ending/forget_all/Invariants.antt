-- The names that lead nowhere yet are those of the chunks that are gone.
use Rattle.context_node.proofs.Words.{◌≡◌, ℕ, true, List, get, Once, has, size, AreFlat, same, left_names}
use Rattle.context_node.proofs.ending.forget_all.Given as goal

abbrev pub invariant-loop-id : goal.invariant-loop-id
invariant-loop-id l = record {
  flat : AreFlat l.chunks.forest;
  once : Once l.chunks.forest;
  numbers : (c : ℕ) → has c l.chunks.places ≡ true → has c l.chunks.forest ≡ true;
  left : (w : List ℕ) → left_names l.chunks.forest (get same l.names) w ≡ left_names l.initial.chunks.forest (get same l.initial.names) w;
}

abbrev pub decreases-loop-id : goal.decreases-loop-id
decreases-loop-id l = size l.chunks.forest
