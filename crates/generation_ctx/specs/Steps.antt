-- What the steps of calls do.
use Rattle.std.specs.Prelude.{◌≡◌, ◌≢◌, ◌↔◌, ℕ, ◌+◌, ◌-◌, ◌≤◌, IsTrue, Some, None, Result, Ok}
use Rattle.addr_space.specs.declared.Addr.{Addr}
use Rattle.addr_space.specs.Space.{Space, Asks, held}
use Rattle.addr_space.specs.Footprint.{Moves, Keeps, KeepsBut}
use Rattle.chunk_header.specs.declared.CtxError.{CtxError}
use Rattle.ctx_blocks.specs.Layout.{block_at, chunk_at, footprint}
use Rattle.ctx_blocks.specs.Steps.{PutsChunk}
use Rattle.ctx_blocks.specs.declared.parts.Block.{Block}
use Rattle.ctx_blocks.specs.declared.parts.Chunk.{Chunk}
use Rattle.generation_ctx.specs.Ledger.{GenerationLedger, GenerationTaken, GenerationResized, resize}
use Rattle.ctx_blocks.specs.Numbered.{AreAmong, KeepsNumbers}
use Rattle.generation_ctx.specs.State.{number_of, place_in}
use Rattle.generation_ctx.specs.Kept.{ledger_of, IsKept}
use Rattle.addr_space.specs.Live.{MovesAt, HasBytesOf}
use Rattle.generation_ctx.specs.declared.books.Books.{Books}

-- blocks come and go and change their parts, while the live chunks stay
pub record Rearranges (b n : Books) (s t : Space) (ledger : GenerationLedger) : Type 0 where
  pub kept : IsKept n
  pub ledger_is : ledger_of n ≡ ledger
  pub chunks : n.blocks.chunks ≡ b.blocks.chunks
  pub account : n.blocks.account ≡ b.blocks.account
  pub moves : Moves (footprint b.blocks) (footprint n.blocks) s t
  pub keeps : Keeps (footprint b.blocks) (footprint n.blocks) s t

-- a live chunk of this size is there now, at the place that the ledger answers
pub record Allocates (b n : Books) (s t : Space) (size : ℕ) (at : Addr) (answer : GenerationTaken) : Type 0 where
  pub kept : IsKept n
  pub ledger : ledger_of n ≡ answer.ledger
  pub fresh : chunk_at b.blocks at ≡ None
  pub chunk : PutsChunk b.blocks n.blocks at (Some (record { size = size; room = answer.place.room; own = answer.place.own }))
  pub number : number_of n.blocks at.region ≡ answer.place.block
  pub numbers : KeepsNumbers b.blocks n.blocks
  pub asked : Asks b.blocks.account answer.asked s t
  pub moves : Moves (footprint b.blocks) (footprint n.blocks) s t
  pub keeps : Keeps (footprint b.blocks) (footprint n.blocks) s t

-- a request is served as a step of the ledger answers
pub record Serves (b n : Books) (s t : Space) (size : ℕ) (at : Addr) (step : Result GenerationTaken CtxError) : Type 0 where
  pub answer : GenerationTaken
  pub is : step ≡ Ok answer
  pub does : Allocates b n s t size at answer

-- a live chunk is there no more
pub record Frees (b n : Books) (s t : Space) (at : Addr) : Type 0 where
  pub kept : IsKept n
  pub chunk : PutsChunk b.blocks n.blocks at None
  pub among : AreAmong n.blocks b.blocks
  pub moves : Moves (footprint b.blocks) (footprint n.blocks) s t
  pub keeps : Keeps (footprint b.blocks) (footprint n.blocks) s t

-- a region's block has a chunk less, which was one of some
pub record Lessens (b n : Books) (region : ℕ) : Type 0 where
  pub block : Block
  pub was : block_at b.blocks region ≡ Some block
  pub some : 1 ≤ block.live
  pub is : block_at n.blocks region ≡ Some (record block { live = block.live - 1; freed = block.freed + 1 })

-- a live chunk has this size now, at the same address or at another one, as the ledger answers
pub record Resizes (b n : Books) (s t : Space) (from to : Addr) (keep size : ℕ) : Type 0 where
  pub kept : IsKept n
  pub old : Chunk
  pub was : chunk_at b.blocks from ≡ Some old
  pub answer : GenerationResized
  pub step : resize (ledger_of b) (held s b.blocks.account) s.limit (place_in b.blocks from.region old) size ≡ Ok answer
  pub ledger : ledger_of n ≡ answer.ledger
  pub fresh : to ≢ from → chunk_at b.blocks to ≡ None
  pub chunk : MovesAt (chunk_at b.blocks) (chunk_at n.blocks) from to (record { size = size; room = answer.place.room; own = answer.place.own })
  pub number : number_of n.blocks to.region ≡ answer.place.block
  pub numbers : KeepsNumbers b.blocks n.blocks
  pub asked : Asks b.blocks.account answer.asked s t
  pub stays : (to ≡ from) ↔ IsTrue answer.stays
  pub bytes : HasBytesOf s t from to keep
  pub moves : Moves (footprint b.blocks) (footprint n.blocks) s t
  pub keeps : KeepsBut from (footprint b.blocks) (footprint n.blocks) s t
