-- What a request for a chunk does.
use Rattle.std.specs.Prelude.{◌≡◌, ℕ, Some, None, Result, Ok}
use Rattle.addr_space.specs.declared.Addr.{Addr}
use Rattle.addr_space.specs.Space.{Space, Asks}
use Rattle.addr_space.specs.Footprint.{Moves, Keeps}
use Rattle.addr_space.specs.Live.{PutsAt, PutsLive}
use Rattle.chunk_header.specs.declared.CtxError.{CtxError}
use Rattle.ctx_blocks.specs.Layout.{footprint}
use Rattle.bump_ctx.specs.Ledger.{BumpTaken}
use Rattle.bump_ctx.specs.State.{place_in}
use Rattle.bump_ctx.specs.Kept.{ledger_of, IsKept}
use Rattle.bump_ctx.specs.declared.books.Books.{Books}

-- a live chunk of this size is there now, as the ledger's step answers
pub record Allocates (b n : Books) (s t : Space) (size : ℕ) (at : Addr) (step : Result BumpTaken CtxError) : Type 0 where
  pub kept : IsKept n
  pub answer : BumpTaken
  pub is : step ≡ Ok answer
  pub ledger : ledger_of n ≡ answer.ledger
  pub place : PutsAt (place_in b.blocks) (place_in n.blocks) at (Some answer.place)
  pub asked : Asks b.blocks.account answer.asked s t
  pub fresh : (footprint b.blocks).live at ≡ None
  pub live : PutsLive (footprint b.blocks) (footprint n.blocks) at (Some size)
  pub moves : Moves (footprint b.blocks) (footprint n.blocks) s t
  pub keeps : Keeps (footprint b.blocks) (footprint n.blocks) s t
