-- What a call that serves a request does to a context, by the step of the ledger.
use Rattle.std.specs.Prelude.{◌≡◌, ℕ, Some, Ok}
use Rattle.addr_space.specs.declared.Addr.{Addr}
use Rattle.addr_space.specs.Space.{Space, Asks}
use Rattle.addr_space.specs.Live.{PutsAt}
use Rattle.bump_ctx.specs.Ledger.{BumpTaken, take}
use Rattle.bump_ctx.specs.State.{BumpState, place_at}

-- the ledger's step for a request gave an answer: it is the new ledger, its place is that of the chunk at an
-- address, every other live chunk keeps its place, and the account took the bytes asked. So much was left of it
pub record Takes (a b : BumpState) (left size : ℕ) (at : Addr) (s t : Space) : Type 0 where
  pub answer : BumpTaken
  pub is : take a.ledger left size ≡ Ok answer
  pub ledger : b.ledger ≡ answer.ledger
  pub place : PutsAt (place_at a) (place_at b) at (Some answer.place)
  pub asked : Asks a.layout.account answer.asked s t
