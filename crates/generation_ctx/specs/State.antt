-- What contracts see of a Generation context: its ledger, and where its blocks and chunks are.
use Rattle.std.specs.Prelude.{ℕ, Option, option_map, unwrap_or}
use Rattle.addr_space.specs.declared.Addr.{Addr}
use Rattle.addr_space.specs.Footprint.{Footprint}
use Rattle.ctx_blocks.specs.Layout.{Layout, block_at, chunk_at as chunk_of, footprint as footprint_of}
use Rattle.ctx_blocks.specs.declared.parts.Chunk.{Chunk}
use Rattle.generation_ctx.specs.Ledger.{GenerationLedger, GenerationPlace, no_block}

-- the ledger, and the blocks and live chunks
pub record GenerationState : Type 0 where
  pub ledger : GenerationLedger
  pub layout : Layout

-- the number of the block in a region
abbrev pub number_of : Layout → ℕ → ℕ
number_of l region = (unwrap_or (block_at l region) no_block).number

-- the place of a chunk that is in a region
abbrev pub place_in : Layout → ℕ → Chunk → GenerationPlace
place_in l region chunk = record { block = number_of l region; room = chunk.room; own = chunk.own }

-- the place of the live chunk at an address
abbrev pub place_at : GenerationState → Addr → Option GenerationPlace
place_at s at = option_map (place_in s.layout at.region) (chunk_of s.layout at)

-- what the context has in a space
abbrev pub footprint : GenerationState → Footprint
footprint s = footprint_of s.layout
