use Rattle.portal_store.proofs.Base.{◌≡◌, ℕ, ◌<◌, ◌≤◌, length, slice_index_or}
use Rattle.portal_store.proofs.Words.{Portal, FallFrom, IsAtMost}
use Rattle.portal_store.proofs.reach.Reach.settle.Given as goal

abbrev pub invariant-loop-left : goal.invariant-loop-left
invariant-loop-left l = record {
  bound : l.left ≤ length l.portals.items;
  long : length l.self.levels.items ≡ length l.portals.items;
  within : (i j : ℕ) (d : Portal) (e : ℕ) → i ≤ j → j < length l.portals.items → IsAtMost (slice_index_or l.self.levels.items i e) (slice_index_or l.portals.items j d);
  falls : FallFrom l.left l.self.levels.items;
  next : (e : ℕ) → l.left < length l.portals.items → slice_index_or l.self.levels.items l.left e ≡ l.deepest;
}

abbrev pub decreases-loop-left : goal.decreases-loop-left
decreases-loop-left l = l.left
