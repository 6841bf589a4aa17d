-- Where an owner stands among those for which something is remembered.
use Rattle.std.specs.Prelude.{◌≡◌, ◌≢◌, ℕ, ◌<◌, ◌≤◌, List, length, slice_index_or}
use Rattle.lock_local.specs.Recalled.{Recall}

-- what is remembered of the owner stands at that place
pub record HasOwnerAt (owner : ℕ) (recalled : List Recall) (at : ℕ) : Type 0 where
  pub within : at < length recalled
  pub here : (d : Recall) → (slice_index_or recalled at d).owner ≡ owner

-- nothing is, and it would stand at that place
pub record WouldHaveOwnerAt (owner : ℕ) (recalled : List Recall) (at : ℕ) : Type 0 where
  pub within : at ≤ length recalled
  pub before : (k : ℕ) (d : Recall) → k < at → (slice_index_or recalled k d).owner < owner
  pub behind : (k : ℕ) (d : Recall) → at ≤ k → k < length recalled → owner < (slice_index_or recalled k d).owner
