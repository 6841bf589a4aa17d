use Rattle.portal_store.proofs.Base.{◌≡◌, ℕ, ◌+◌, ◌<◌, ◌≤◌, length, slice_index_or}
use Rattle.portal_store.proofs.reach.Reach.raise.Given as goal

abbrev pub invariant-loop-left : goal.invariant-loop-left
invariant-loop-left l = record {
  bound : l.left ≤ l.place + 1;
  long : length l.self.levels.items ≡ length l.initial.self.levels.items;
  front : (k e : ℕ) → k < l.left → slice_index_or l.self.levels.items k e ≡ slice_index_or l.initial.self.levels.items k e;
  back : (k e : ℕ) → l.place < k → slice_index_or l.self.levels.items k e ≡ slice_index_or l.initial.self.levels.items k e;
  done : (k e : ℕ) → l.left ≤ k → k ≤ l.place → (slice_index_or l.self.levels.items k e ≡ l.to);
  low : (k e : ℕ) → l.left ≤ k → k ≤ l.place → slice_index_or l.initial.self.levels.items k e < l.to;
}

abbrev pub decreases-loop-left : goal.decreases-loop-left
decreases-loop-left l = l.left
