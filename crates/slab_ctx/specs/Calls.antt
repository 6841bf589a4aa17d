-- What a call that serves a request does to a context, by the step of the ledger.
use Rattle.std.specs.Prelude.{◌≡◌, ◌↔◌, ℕ, IsTrue, Some, Result, Ok}
use Rattle.addr_space.specs.declared.Addr.{Addr}
use Rattle.addr_space.specs.Space.{Space, Asks, held}
use Rattle.addr_space.specs.Live.{PutsAt, MovesAt}
use Rattle.chunk_header.specs.declared.CtxError.{CtxError}
use Rattle.slab_ctx.specs.Ledger.{SlabTaken, SlabResized, take, resize}
use Rattle.slab_ctx.specs.State.{SlabState, place_at}

-- the ledger's step for a request gave an answer: it is the new ledger, its place is that of the chunk at an
-- address, every other live chunk keeps its place, and the account took the bytes asked. So much was left of it
pub record Takes (a b : SlabState) (left size : ℕ) (at : Addr) (s t : Space) : Type 0 where
  pub answer : SlabTaken
  pub is : take a.ledger left size ≡ Ok answer
  pub ledger : b.ledger ≡ answer.ledger
  pub place : PutsAt (place_at a) (place_at b) at (Some answer.place)
  pub asked : Asks a.layout.account answer.asked s t

-- the ledger's step for a chunk at a place, with what the account holds and may hold
abbrev pub resize_in : SlabState → Space → ℕ → ℕ → Result SlabResized CtxError
resize_in a s place size = resize a.ledger (held s a.layout.account) s.limit place size

-- the same for a chunk at a place that gets another size, and stays at its address exactly where the answer says so
pub record Resizes (a b : SlabState) (was : ℕ) (size : ℕ) (from to : Addr) (s t : Space) : Type 0 where
  pub answer : SlabResized
  pub is : resize_in a s was size ≡ Ok answer
  pub ledger : b.ledger ≡ answer.ledger
  pub place : MovesAt (place_at a) (place_at b) from to answer.place
  pub asked : Asks a.layout.account answer.asked s t
  pub stays : (to ≡ from) ↔ IsTrue answer.stays
