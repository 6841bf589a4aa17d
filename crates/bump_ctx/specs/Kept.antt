-- What holds of the insides of a Bump context.
use Rattle.std.specs.Prelude.{◌≡◌, ℕ, ◌-◌, length, Option, Some, None}
use Rattle.chunk_header.specs.declared.Kind.TheVariants.{Bump}
use Rattle.ctx_blocks.specs.Layout.{Layout, block_at, total, rooms}
use Rattle.ctx_blocks.specs.declared.parts.Block.{Block}
use Rattle.bump_ctx.specs.Ledger.{BumpLedger}
use Rattle.bump_ctx.specs.State.{BumpState}
use Rattle.bump_ctx.specs.declared.books.Books.{Books}
use Rattle.chunk_header.specs.Growth.{AreSizes}
use Rattle.ctx_blocks.specs.Kept.{HasSize}

-- the room of a block, where there is one
abbrev pub room_of : Option Block → ℕ
room_of None = 0
room_of (Some block) = block.room

abbrev pub room_at : Layout → ℕ → ℕ
room_at l number = room_of (block_at l number)

-- the ledger: its numbers are those of the blocks
abbrev pub ledger_of : Books → BumpLedger
ledger_of b = record {
  init = b.sizes.init;
  max = b.sizes.max;
  next = b.next;
  total = total b.blocks;
  blocks = length b.blocks.blocks;
  room = room_at b.blocks b.newest;
  idle = rooms b.blocks - room_at b.blocks b.newest;
}

-- the value that contracts see
abbrev pub state_of : Books → BumpState
state_of b = record { ledger = ledger_of b; layout = b.blocks }

-- all that the code keeps
pub record IsKept (b : Books) : Type 0 where
  pub kind : b.blocks.kind ≡ Bump
  pub sizes : AreSizes b.sizes.init b.sizes.max b.next
  pub keeper : HasSize b.blocks b.blocks.keeper b.sizes.init
  pub bytes : ℕ
  pub newest : HasSize b.blocks b.newest bytes
