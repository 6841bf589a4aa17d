-- Where a lock stands among the locks of a session.
use Rattle.std.specs.Prelude.{◌≡◌, ℕ, ◌<◌, ◌≤◌, IsTrue, false, List, length, slice_index_or}
use Rattle.pgs_step.specs.declared.lock_modes.Mode.{Mode}
use Rattle.lock_local.specs.Locks.{Lock, is_lock, comes_before}

-- the lock stands at that place; d is read where there is none
pub record StandsAt (object : ℕ) (mode : Mode) (locks : List Lock) (at : ℕ) (d : Lock) : Type 0 where
  pub within : at < length locks
  pub here : IsTrue (is_lock object mode (slice_index_or locks at d))
  pub before : (k : ℕ) → k < at → IsTrue (comes_before (slice_index_or locks k d).object (slice_index_or locks k d).mode object mode)

-- the lock isn't there, and would stand at that place
pub record WouldStandAt (object : ℕ) (mode : Mode) (locks : List Lock) (at : ℕ) (d : Lock) : Type 0 where
  pub within : at ≤ length locks
  pub before : (k : ℕ) → k < at → IsTrue (comes_before (slice_index_or locks k d).object (slice_index_or locks k d).mode object mode)
  pub not_before : at < length locks → comes_before (slice_index_or locks at d).object (slice_index_or locks at d).mode object mode ≡ false
  pub not_here : at < length locks → is_lock object mode (slice_index_or locks at d) ≡ false
