-- What a chunk must have to be noted in a block.
use Rattle.std.specs.Prelude.{◌≡◌, ◌+◌, ◌%◌, ◌≤◌, Some}
use Rattle.addr_space.specs.declared.Addr.{Addr}
use Rattle.addr_space.specs.Space.{Space, IsInside}
use Rattle.chunk_header.specs.Header.{header_place}
use Rattle.ctx_blocks.specs.Layout.{Layout, block_at, chunk_at, start_of, header_room, whole_of}
use Rattle.ctx_blocks.specs.Kept.{IsFilled, IsSized, IsClear}
use Rattle.ctx_blocks.specs.declared.parts.Block.{Block}
use Rattle.ctx_blocks.specs.declared.parts.Chunk.{Chunk}
use Rattle.chunk_header.specs.declared.TheConstants.{BLOCK_HEADER}

-- the header of a chunk has a place in the space, and its parts have room in their word
pub record IsWritten (l : Layout) (s : Space) (at : Addr) (chunk : Chunk) : Type 0 where
  pub first : start_of l at.region + BLOCK_HEADER + header_room l ≤ at.offset
  pub whole : at.offset % 8 ≡ 0
  pub sized : IsSized (header_room l) chunk
  pub inside : header_room l ≡ 8 → IsInside s (header_place at) 8

-- an address has place for a chunk in a block that becomes another one: that has the same number and bytes, as
-- much room at most, and one live chunk more
pub record Holds (l : Layout) (at : Addr) (chunk : Chunk) (block : Block) : Type 0 where
  pub old : Block
  pub owned : block_at l at.region ≡ Some old
  pub number : block.number ≡ old.number
  pub size : block.size ≡ old.size
  pub live : block.live ≡ old.live + 1
  pub less : block.room ≤ old.room
  pub filled : IsFilled (whole_of l at.region block.size) block
  pub first : start_of l at.region + BLOCK_HEADER + header_room l ≤ at.offset
  pub last : at.offset + chunk.room + block.room ≤ block.size
  pub whole : at.offset % 8 ≡ 0
  pub sized : IsSized (header_room l) chunk
  pub clear : (other : Addr) (c : Chunk) → chunk_at l other ≡ Some c → IsClear (header_room l) other c at chunk
