use Rattle.portal_store.proofs.Base.{◌≡◌, ℕ, ◌<◌, ◌≤◌, false, length, slice_index_or, IsSome, get}
use Rattle.portal_store.proofs.Words.{Portal, same}
use Rattle.portal_store.proofs.places.Places.begin.Given as goal

abbrev pub invariant-loop-left : goal.invariant-loop-left
invariant-loop-left l = record {
  unused : l.self.in_use ≡ false;
  bound : l.left ≤ length l.portals.items;
  known : (k : ℕ) (d : Portal) → l.left ≤ k → k < length l.portals.items → IsSome (get same l.self.serials (slice_index_or l.portals.items k d).name);
}

abbrev pub decreases-loop-left : goal.decreases-loop-left
decreases-loop-left l = l.left
