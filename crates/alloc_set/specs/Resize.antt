-- Resizing a chunk: what it does to the books, to the live chunks and to their bytes.
use Rattle.std.specs.Prelude.{◌≡◌, ◌≢◌, ℕ, None, Result}
use Rattle.chunk_header.specs.declared.CtxError.{CtxError}
use Rattle.addr_space.specs.declared.Addr.{Addr}
use Rattle.addr_space.specs.Space.{Space}
use Rattle.addr_space.specs.Footprint.{Moves, KeepsBut}
use Rattle.addr_space.specs.Live.{MovesLive, HasBytesOf}
use Rattle.chunk_header.specs.Answers.{Resized}
use Rattle.alloc_set.specs.Calls.{Refits}
use Rattle.alloc_set.specs.Ledger.{SetLedger, SetPlace}
use Rattle.alloc_set.specs.State.{SetState, footprint}
use Rattle.alloc_set.specs.Kept.{state_of, IsKept}
use Rattle.alloc_set.specs.declared.books.Books.{Books}

-- a live chunk has this size now, at the same address or at another one, where the ledger's step answers so
pub record Reallocates (a : SetState) (n : Books) (s t : Space) (from to : Addr) (keep size : ℕ) (step : Result (Resized SetLedger SetPlace) CtxError) : Type 0 where
  pub kept : IsKept n
  pub refits : Refits step a (state_of n) from to s t
  pub fresh : to ≢ from → (footprint a).live to ≡ None
  pub live : MovesLive (footprint a) (footprint (state_of n)) from to size
  pub bytes : HasBytesOf s t from to keep
  pub moves : Moves (footprint a) (footprint (state_of n)) s t
  pub keeps : KeepsBut from (footprint a) (footprint (state_of n)) s t
