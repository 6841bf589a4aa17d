-- What calls do to a Slab's blocks and live chunks.
use Rattle.std.specs.Prelude.{◌≡◌, ◌≢◌, ℕ, ◌<◌, Some, None, Result, Ok}
use Rattle.addr_space.specs.declared.Addr.{Addr}
use Rattle.addr_space.specs.Space.{Space, Asks}
use Rattle.addr_space.specs.Footprint.{Moves, Keeps}
use Rattle.chunk_header.specs.declared.CtxError.{CtxError}
use Rattle.ctx_blocks.specs.Layout.{Layout, block_at, chunk_at}
use Rattle.ctx_blocks.specs.Numbered.{number_of, KeepsNumbers}
use Rattle.ctx_blocks.specs.Steps.{PutsChunk}
use Rattle.ctx_blocks.specs.declared.parts.Block.{Block}
use Rattle.slab_ctx.specs.Ledger.{SlabTaken}
use Rattle.slab_ctx.specs.Slots.{chunk_of}
use Rattle.slab_ctx.specs.State.{SlabState, footprint}
use Rattle.slab_ctx.specs.Kept.{ledger_of, state_of, IsKept}
use Rattle.slab_ctx.specs.declared.books.Books.{Books}

-- a block with a free chunk, which isn't the first region
pub record IsChosen (l : Layout) (per number : ℕ) : Type 0 where
  pub block : Block
  pub found : block_at l number ≡ Some block
  pub not_keeper : number ≢ l.keeper
  pub free : block.live < per

-- a live chunk of the context's size is there now, at the place that the ledger answers
pub record Allocates (a : SlabState) (n : Books) (sp sq : Space) (at : Addr) (answer : SlabTaken) : Type 0 where
  pub kept : IsKept n
  pub ledger : ledger_of n ≡ answer.ledger
  pub fresh : chunk_at a.layout at ≡ None
  pub chunk : PutsChunk a.layout n.slots.blocks at (Some (chunk_of a.ledger.size))
  pub number : number_of n.slots.blocks at.region ≡ answer.place
  pub numbers : KeepsNumbers a.layout n.slots.blocks
  pub asked : Asks a.layout.account answer.asked sp sq
  pub moves : Moves (footprint a) (footprint (state_of n)) sp sq
  pub keeps : Keeps (footprint a) (footprint (state_of n)) sp sq

-- a request is served as a step of the ledger answers
pub record Serves (a : SlabState) (n : Books) (sp sq : Space) (at : Addr) (step : Result SlabTaken CtxError) : Type 0 where
  pub answer : SlabTaken
  pub is : step ≡ Ok answer
  pub does : Allocates a n sp sq at answer
