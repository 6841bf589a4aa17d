-- What holds of the insides of a Slab.
use Rattle.std.specs.Prelude.{◌≡◌, ℕ, ◌+◌, ◌*◌, ◌^◌, ◌≤◌, ◌==◌, List, [], ◌∷◌, length, None}
use Rattle.std.specs.Map.{lookup}
use Rattle.ctx_blocks.specs.Layout.{Layout, total}
use Rattle.ctx_blocks.specs.Kept.{AreRising}
use Rattle.ctx_blocks.specs.declared.parts.Block.{Block}
use Rattle.slab_ctx.specs.Lives.{LiveCounts, empties, free_chunks, per_block}
use Rattle.slab_ctx.specs.Order.{IsOrdered}
use Rattle.slab_ctx.specs.Ledger.{SlabLedger}
use Rattle.slab_ctx.specs.State.{SlabState, others, lives_of, blocks_of}
use Rattle.slab_ctx.specs.Slots.{HasSlots, first_region}
use Rattle.slab_ctx.specs.declared.books.Books.{Books}
use Rattle.chunk_header.specs.declared.TheConstants.{CONTEXT_BYTES}
use Rattle.slab_ctx.specs.declared.slots.TheConstants.{BLOCK_BYTES}

-- how many live chunks each block has
abbrev pub inner_of : Books → LiveCounts
inner_of b = record { size = b.slots.size; lives = lives_of b.slots.blocks }

-- the ledger: its blocks are those that there are, by their numbers
abbrev pub ledger_of : Books → SlabLedger
ledger_of b = record { size = b.slots.size; count = b.slots.blocks.last_number; blocks = blocks_of b.slots.blocks }

-- the value that contracts see
abbrev pub state_of : Books → SlabState
state_of b = record { ledger = ledger_of b; layout = b.slots.blocks }

-- no two blocks of a list are in one region
abbrev pub AreApart : List (ℕ × Block) → Type 0
AreApart [] = Unit {0}
AreApart (e ∷ es) = (lookup (λ n. e.0 == n) es ≡ None) × AreApart es

-- the first region is the first of the blocks, and no other of them
pub record IsListed (l : Layout) : Type 0 where
  pub shape : l.blocks ≡ (l.keeper, first_region) ∷ others l.blocks
  pub alone : lookup (λ n. l.keeper == n) (others l.blocks) ≡ None
  pub rising : AreRising 1 l.last_number (others l.blocks)
  pub apart : AreApart (others l.blocks)

-- all that the code keeps, but that the books count so many empty blocks too few
pub record IsKeptBut (b : Books) (few : ℕ) : Type 0 where
  pub slots : HasSlots b.slots
  pub listed : IsListed b.slots.blocks
  pub empty : b.empty + few ≡ empties (lives_of b.slots.blocks)
  pub free : b.free ≡ free_chunks (inner_of b)
  pub bytes : total b.slots.blocks ≡ CONTEXT_BYTES + BLOCK_BYTES * length (lives_of b.slots.blocks)
  pub most : total b.slots.blocks ≤ 2 ^ 62
  pub order : IsOrdered b.ranks b.slots.blocks (per_block b.slots.size)

-- all that the code keeps
abbrev pub IsKept : Books → Type 0
IsKept b = IsKeptBut b 0
