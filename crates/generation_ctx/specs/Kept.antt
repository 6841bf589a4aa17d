-- What holds of the insides of a Generation context.
use Rattle.std.specs.Prelude.{◌≡◌, ◌≢◌, ◌≤◌, ℕ, true, Option, Some, None, ◌+◌, option_map}
use Rattle.std.specs.Map.{values_of}
use Rattle.addr_space.specs.declared.Addr.{Addr}
use Rattle.chunk_header.specs.declared.Kind.TheVariants.{Generation}
use Rattle.ctx_blocks.specs.Layout.{Layout, block_at, chunk_at}
use Rattle.ctx_blocks.specs.declared.parts.Block.{Block}
use Rattle.ctx_blocks.specs.declared.parts.Chunk.{Chunk}
use Rattle.generation_ctx.specs.Ledger.{GenerationLedger}
use Rattle.generation_ctx.specs.State.{GenerationState, number_of}
use Rattle.generation_ctx.specs.declared.books.Books.{Books}
use Rattle.chunk_header.specs.Growth.{AreSizes}
use Rattle.ctx_blocks.specs.Kept.{HasSize, AreRising}
use Rattle.chunk_header.specs.declared.TheConstants.{OWN_HEADERS}

-- the ledger: its blocks are those that there are, by their numbers
abbrev pub ledger_of : Books → GenerationLedger
ledger_of b = record {
  init = b.sizes.init;
  max = b.sizes.max;
  next = b.next;
  count = b.blocks.last_number;
  current = number_of b.blocks b.current;
  spare = option_map (number_of b.blocks) b.spare;
  blocks = values_of b.blocks.blocks;
}

-- the value that contracts see
abbrev pub state_of : Books → GenerationState
state_of b = record { ledger = ledger_of b; layout = b.blocks }

-- there is a block without live chunks, and it is neither the keeper nor the current one
pub record IsIdle (l : Layout) (current number : ℕ) : Type 0 where
  pub block : Block
  pub is : block_at l number ≡ Some block
  pub live : block.live ≡ 0
  pub not_keeper : number ≢ l.keeper
  pub not_current : number ≢ current

abbrev pub IsSpare : Layout → ℕ → Option ℕ → Type 0
IsSpare l current None = Unit {0}
IsSpare l current (Some number) = IsIdle l current number

-- the block of a chunk has no room and no other chunk, begins and ends with it, and is neither the keeper nor the
-- current one
pub record IsAlone (l : Layout) (current : ℕ) (at : Addr) (chunk : Chunk) : Type 0 where
  pub block : Block
  pub is : block_at l at.region ≡ Some block
  pub live : block.live ≡ 1
  pub room : block.room ≡ 0
  pub whole : block.size ≡ chunk.room + OWN_HEADERS
  pub not_keeper : at.region ≢ l.keeper
  pub not_current : at.region ≢ current

-- each chunk that has a block for itself is alone in it
abbrev pub AllAlone : Layout → ℕ → Type 0
AllAlone l current = (at : Addr) (chunk : Chunk) → chunk_at l at ≡ Some chunk → chunk.own ≡ true → IsAlone l current at chunk

-- blocks are numbered as they were taken, and the keeper is 1
pub record AreNumbered (l : Layout) : Type 0 where
  pub first : l.first_number ≡ 1
  pub rising : AreRising 1 l.last_number l.blocks
  pub some : 1 ≤ l.last_number
  pub keeper : number_of l l.keeper ≡ 1

-- all that the code keeps
pub record IsKept (b : Books) : Type 0 where
  pub kind : b.blocks.kind ≡ Generation
  pub numbered : AreNumbered b.blocks
  pub sizes : AreSizes b.sizes.init b.sizes.max b.next
  pub keeper : HasSize b.blocks b.blocks.keeper b.sizes.init
  pub bytes : ℕ
  pub current : HasSize b.blocks b.current bytes
  pub spare : IsSpare b.blocks b.current b.spare
  pub alone : AllAlone b.blocks b.current
