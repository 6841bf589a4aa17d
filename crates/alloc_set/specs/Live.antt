-- What calls do to the live chunks.
use Rattle.std.specs.Prelude.{◌≡◌, ℕ, Some}
use Rattle.addr_space.specs.declared.Addr.{Addr}
use Rattle.alloc_set.specs.State.{SetState, chunk_at, footprint}

-- whatever was live stands where it stood
abbrev pub LeavesLive : SetState → SetState → Type 0
LeavesLive s t = (other : Addr) (size : ℕ) → (footprint s).live other ≡ Some size → chunk_at t other ≡ chunk_at s other
