-- What is left once the rest of a block was cut up.
use Rattle.std.specs.Prelude.{◌≡◌, ◌≢◌, ℕ, ◌+◌, ◌-◌, ◌≤◌, Some, None, Result, sum_by}
use Rattle.std.specs.Map.{values_of}
use Rattle.addr_space.specs.Footprint.{Moves, Keeps}
use Rattle.chunk_header.specs.declared.CtxError.{CtxError}
use Rattle.addr_space.specs.Space.{Space, Asks, held}
use Rattle.chunk_header.specs.Answers.{Taken}
use Rattle.alloc_set.specs.Calls.{Serves}
use Rattle.alloc_set.specs.Ledger.{SetLedger, SetPlace, block_size, renewed, class_bytes}
use Rattle.addr_space.specs.declared.Addr.{Addr}
use Rattle.alloc_set.specs.State.{SetState, chunk_at, footprint}
use Rattle.alloc_set.specs.Kept.{state_of, IsKept, taken_bytes}
use Rattle.addr_space.specs.Live.{PutsLive, SameLive}
use Rattle.alloc_set.specs.Live.{LeavesLive}
use Rattle.alloc_set.specs.declared.books.Books.{Books}

-- free chunks of the active block were made
pub record CutsUp (b n : Books) : Type 0 where
  pub kept : IsKept n
  pub rest : n ≡ record b { active = n.active; chunks = n.chunks; shelves = n.shelves }
  pub active : n.active ≡ record b.active { room = n.active.room }
  pub less : n.active.room ≤ b.active.room
  pub others : (at : Addr) → at.region ≢ b.active.region → chunk_at (state_of n) at ≡ chunk_at (state_of b) at
  pub sums : sum_by taken_bytes (values_of n.chunks.entries) + n.active.room ≡ sum_by taken_bytes (values_of b.chunks.entries) + b.active.room
  pub live : SameLive (footprint (state_of b)) (footprint (state_of n))
  pub stays : LeavesLive (state_of b) (state_of n)

-- a new block is active, with room for a chunk of a class
pub record Renews (b n : Books) (s t : Space) (class : ℕ) : Type 0 where
  pub size : ℕ
  pub had : block_size (state_of b).ledger (s.limit - held s b.account) class ≡ Some size
  pub kept : IsKept n
  pub ledger : (state_of n).ledger ≡ renewed (state_of b).ledger size
  pub room : class_bytes class ≤ n.active.room
  pub limit : n.limit ≡ b.limit
  pub live : SameLive (footprint (state_of b)) (footprint (state_of n))
  pub stays : LeavesLive (state_of b) (state_of n)
  pub asked : Asks b.account size s t

-- a live chunk of this size is there now, where the ledger's step answers so
pub record Allocates (a : SetState) (n : Books) (s t : Space) (size : ℕ) (at : Addr) (step : Result (Taken SetLedger SetPlace) CtxError) : Type 0 where
  pub kept : IsKept n
  pub serves : Serves step a (state_of n) at s t
  pub fresh : (footprint a).live at ≡ None
  pub live : PutsLive (footprint a) (footprint (state_of n)) at (Some size)
  pub stays : LeavesLive a (state_of n)
  pub moves : Moves (footprint a) (footprint (state_of n)) s t
  pub keeps : Keeps (footprint a) (footprint (state_of n)) s t
