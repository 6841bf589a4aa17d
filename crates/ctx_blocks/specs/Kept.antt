-- What holds of the blocks of a context and of the chunks in them.
use Rattle.std.specs.Prelude.{◌≡◌, ℕ, ◌+◌, ◌-◌, ◌*◌, ◌%◌, ◌^◌, ◌<◌, ◌≤◌, ◌⊎◌, List, [], ◌∷◌, Some, true, nat_eq}
use Rattle.addr_space.specs.declared.Addr.{Addr}
use Rattle.ctx_blocks.specs.Layout.{Layout, block_at, chunk_at, start_of, header_room, whole_of, count_in, total}
use Rattle.indexmap.specs.IndexMap.{IsUnique}
use Rattle.ctx_blocks.specs.Order.{in_order}
use Rattle.ctx_blocks.specs.Steps.{AreUnique}
use Rattle.ctx_blocks.specs.declared.parts.Block.{Block}
use Rattle.ctx_blocks.specs.declared.parts.Chunk.{Chunk}
use Rattle.ctx_blocks.specs.declared.books.Books.{Books}
use Rattle.chunk_header.specs.declared.TheConstants.{BLOCK_HEADER}

-- the value that contracts see
abbrev pub layout_of : Books → Layout
layout_of b = record {
  kind = b.kind;
  account = b.account;
  context = b.context;
  keeper = b.keeper;
  first_number = b.first_number;
  last_number = b.last_number;
  blocks = in_order b.blocks.entries;
  chunks = b.chunks.entries;
}

-- there is a block in a region, and it has so many bytes
pub record HasSize (l : Layout) (number bytes : ℕ) : Type 0 where
  pub block : Block
  pub is : block_at l number ≡ Some block
  pub size : block.size ≡ bytes

-- a block of so many bytes whose whole room is this much: each chunk that was cut off it took 8 bytes or more
pub record IsFilled (whole : ℕ) (block : Block) : Type 0 where
  pub small : block.size ≤ 2 ^ 31
  pub even : (block.size - block.room) % 8 ≡ 0
  pub within : 8 * (block.live + block.freed) + block.room ≤ whole

-- a chunk has some bytes with its header, its size is within what it may have, and that has a place in its header
pub record IsSized (gap : ℕ) (chunk : Chunk) : Type 0 where
  pub some : 0 < gap + chunk.room
  pub fits : chunk.size ≤ chunk.room
  pub value : (chunk.own ≡ true) ⊎ (chunk.room < 2 ^ 30)

-- where a chunk is: in a block of the context, behind the block's header and a header of its own, and below the
-- block's room
pub record IsPlaced (l : Layout) (at : Addr) (chunk : Chunk) : Type 0 where
  pub block : Block
  pub owned : block_at l at.region ≡ Some block
  pub first : start_of l at.region + BLOCK_HEADER + header_room l ≤ at.offset
  pub last : at.offset + chunk.room + block.room ≤ block.size
  pub whole : at.offset % 8 ≡ 0
  pub sized : IsSized (header_room l) chunk

-- two chunks have place for a header between them
abbrev pub IsClear : ℕ → Addr → Chunk → Addr → Chunk → Type 0
IsClear gap a first b second = a.region ≡ b.region → (a.offset + first.room + gap ≤ b.offset) ⊎ (b.offset + second.room + gap ≤ a.offset)

-- the blocks, and the chunks in them
pub record IsLaid (l : Layout) : Type 0 where
  pub filled : (number : ℕ) (block : Block) → block_at l number ≡ Some block → IsFilled (whole_of l number block.size) block
  pub placed : (at : Addr) (chunk : Chunk) → chunk_at l at ≡ Some chunk → IsPlaced l at chunk
  pub apart : (a b : Addr) (first second : Chunk) → chunk_at l a ≡ Some first → chunk_at l b ≡ Some second → a.region ≡ b.region → a.offset < b.offset → a.offset + first.room + header_room l ≤ b.offset

-- the keeper is the first block, and has this number
abbrev pub IsFirst : ℕ → ℕ → List (ℕ × Block) → Type 0
IsFirst keeper number [] = ⊥
IsFirst keeper number (e ∷ es) = (e.0 ≡ keeper) × (e.1.number ≡ number)

-- the numbers of blocks rise in the order in which they were taken, from one number on and up to another one
abbrev pub AreRising : ℕ → ℕ → List (ℕ × Block) → Type 0
AreRising least most [] = Unit {0}
AreRising least most (e ∷ es) = (least ≤ e.1.number) × (e.1.number ≤ most) × AreRising (e.1.number + 1) most es

-- each block counts its live chunks
abbrev pub IsCounted : Layout → Type 0
IsCounted l = (number : ℕ) (block : Block) → block_at l number ≡ Some block → block.live ≡ count_in l number

-- all that the code keeps; the keeper is the first one also of the blocks as they are kept, and no two of those are in
-- one region
pub record IsKept (b : Books) : Type 0 where
  pub laid : IsLaid (layout_of b)
  pub counted : IsCounted (layout_of b)
  pub first : IsFirst b.keeper b.first_number b.blocks.entries
  pub numbered : AreRising b.first_number b.last_number (in_order b.blocks.entries)
  pub total : b.total ≡ total (layout_of b)
  pub most : b.total ≤ 2 ^ 62
  pub apart : IsUnique nat_eq b.blocks
  pub unique : AreUnique b.chunks.entries
