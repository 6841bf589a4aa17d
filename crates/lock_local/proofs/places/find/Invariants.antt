use Rattle.lock_local.proofs.Base.{comes_before, false, get_or, length, Lock, true, ℕ, ◌-◌, ◌<◌, ◌≡◌, ◌≤◌}
use Rattle.lock_local.proofs.places.find.Given as goal

abbrev pub invariant-loop-low : goal.invariant-loop-low
invariant-loop-low l = record {
  ordered : l.low ≤ l.high;
  within : l.high ≤ length l.locks.items;
  front : (k : ℕ) (d : Lock) → k < l.low → comes_before (get_or l.locks.items k d).object (get_or l.locks.items k d).mode l.object l.mode ≡ true;
  back : (k : ℕ) (d : Lock) → l.high ≤ k → k < length l.locks.items → comes_before (get_or l.locks.items k d).object (get_or l.locks.items k d).mode l.object l.mode ≡ false;
}

abbrev pub decreases-loop-low : goal.decreases-loop-low
decreases-loop-low l = l.high - l.low
