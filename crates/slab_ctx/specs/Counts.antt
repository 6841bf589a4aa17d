-- How the number of a block's live chunks changes.
use Rattle.std.specs.Prelude.{◌≡◌, ℕ, Some}
use Rattle.ctx_blocks.specs.Layout.{Layout, block_at}
use Rattle.ctx_blocks.specs.Steps.{PutsBlock}
use Rattle.ctx_blocks.specs.declared.parts.Block.{Block}
use Rattle.slab_ctx.specs.declared.slots.TheConstants.{BLOCK_BYTES}

-- one block has so many live chunks now, and every other block stays
pub record Counts (l m : Layout) (number live : ℕ) : Type 0 where
  pub block : Block
  pub puts : PutsBlock l m number block
  pub count : block.live ≡ live
  pub same_number : (old : Block) → block_at l number ≡ Some old → block.number ≡ old.number
  pub bytes : block.size ≡ BLOCK_BYTES
