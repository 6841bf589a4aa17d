-- What contracts see of a Slab: its ledger, and where its blocks and chunks are.
use Rattle.std.specs.Prelude.{ℕ, suc, ◌+◌, ◌-◌, ◌%◌, ◌==◌, ◌&&◌, Bool, List, [], ◌∷◌, Option, Some, None, option_map, option_and_then, map, nat_le, if◌then◌else◌}
use Rattle.addr_space.specs.declared.Addr.{Addr}
use Rattle.addr_space.specs.Footprint.{Footprint}
use Rattle.ctx_blocks.specs.Layout.{Layout, block_at, chunk_at, footprint as footprint_of}
use Rattle.ctx_blocks.specs.Numbered.{number_of}
use Rattle.ctx_blocks.specs.declared.parts.Block.{Block}
use Rattle.ctx_blocks.specs.declared.parts.Chunk.{Chunk}
use Rattle.slab_ctx.specs.Ledger.{SlabLedger, SlabBlock, stride}
use Rattle.chunk_header.specs.declared.TheConstants.{CHUNK_HEADER, OWN_HEADERS}
use Rattle.slab_ctx.specs.declared.slots.TheConstants.{BLOCK_BYTES}

-- the ledger, and the blocks and live chunks
pub record SlabState : Type 0 where
  pub ledger : SlabLedger
  pub layout : Layout

-- the blocks but for the keeper, which is the first one
abbrev pub others : List (ℕ × Block) → List (ℕ × Block)
others [] = []
others (e ∷ es) = es

-- each of them by its number, with its live chunks
abbrev pub numbered_of : ℕ × Block → SlabBlock
numbered_of e = record { number = e.1.number; live = e.1.live }

abbrev pub blocks_of : Layout → List SlabBlock
blocks_of l = map numbered_of (others l.blocks)

-- the place of a chunk: the number of its block
abbrev pub place : ℕ → Chunk → ℕ
place number chunk = number

-- the place of the live chunk at an address
abbrev pub place_at : SlabState → Addr → Option ℕ
place_at s at = option_map (place (number_of s.layout at.region)) (chunk_at s.layout at)

-- how many live chunks each of them has
abbrev pub live_of : ℕ × Block → ℕ
live_of e = e.1.live

abbrev pub lives_of : Layout → List ℕ
lives_of l = map live_of (others l.blocks)

-- how many of a list of blocks stand before that of a region
abbrev pub place_in : List (ℕ × Block) → ℕ → ℕ
place_in [] number = 0
place_in (e ∷ es) number = if number == e.0 then 0 else suc (place_in es number)

-- whether a chunk may stand at an offset of a block
abbrev pub is_slot : ℕ → ℕ → Bool
is_slot size offset = (nat_le OWN_HEADERS offset && ((offset - OWN_HEADERS) % stride size == 0)) && nat_le (offset + (stride size - CHUNK_HEADER)) BLOCK_BYTES

-- the size of a free chunk at an offset of a block, where no live one stands
abbrev pub free_slot : ℕ → ℕ → Option Chunk → Option ℕ
free_slot size offset None = if is_slot size offset then Some size else None
free_slot size offset (Some chunk) = None

abbrev pub free_block : ℕ → ℕ → Option Block → Option Chunk → Option ℕ
free_block size offset None chunk = None
free_block size offset (Some block) chunk = free_slot size offset chunk

-- the size of a free chunk at an address: the first region has none
abbrev pub free_at : ℕ → Layout → Addr → Option ℕ
free_at size l at = if l.keeper == at.region then None else free_block size at.offset (block_at l at.region) (chunk_at l at)

-- what the context has in a space
abbrev pub footprint : SlabState → Footprint
footprint s = record (footprint_of s.layout) { free = free_at s.ledger.size s.layout }

-- the block in a region, by its number, with its live chunks
abbrev pub serving_block : Layout → Option ℕ → Option SlabBlock
serving_block l region = option_and_then (λ r. option_map (λ b. record { number = b.number; live = b.live }) (block_at l r)) region
