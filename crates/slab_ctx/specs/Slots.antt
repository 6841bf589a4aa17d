-- What holds of the chunks of a Slab's blocks, and of the offsets of the freed ones.
use Rattle.std.specs.Prelude.{◌≡◌, ◌≢◌, ℕ, ◌+◌, ◌-◌, ◌*◌, ◌<◌, ◌≤◌, ◌==◌, List, [], length, Option, Some, None, slice_index, false}
use Rattle.std.specs.Map.{lookup}
use Rattle.std.specs.Global.{Vec}
use Rattle.addr_space.specs.declared.Addr.{Addr}
use Rattle.chunk_header.specs.declared.Kind.TheVariants.{Slab}
use Rattle.ctx_blocks.specs.Layout.{Layout, block_at, chunk_at}
use Rattle.ctx_blocks.specs.declared.parts.Block.{Block}
use Rattle.ctx_blocks.specs.declared.parts.Chunk.{Chunk}
use Rattle.slab_ctx.specs.Lives.{stride, per_block}
use Rattle.slab_ctx.specs.declared.slots.Slots.{Slots}
use Rattle.chunk_header.specs.declared.TheConstants.{CONTEXT_BYTES, BLOCK_HEADER, CHUNK_HEADER, OWN_HEADERS}
use Rattle.slab_ctx.specs.declared.slots.TheConstants.{BLOCK_BYTES, LARGEST_CHUNK}

-- the first region, which has no room for a block
abbrev pub first_region : Block
first_region = record { number = 0; size = CONTEXT_BYTES; room = 0; live = 0; freed = 0 }

-- every live chunk
abbrev pub chunk_of : ℕ → Chunk
chunk_of size = record { size = size; room = stride size - CHUNK_HEADER; own = false }

-- chunks stand one behind the other in a block
pub record IsSlot (size offset : ℕ) : Type 0 where
  pub slot : ℕ
  pub at_slot : offset ≡ OWN_HEADERS + slot * stride size

-- the offsets in the stack of a block
abbrev pub items_of : Option (Vec ℕ) → List ℕ
items_of None = []
items_of (Some stack) = stack.items

abbrev pub stack_at : List (ℕ × Vec ℕ) → ℕ → List ℕ
stack_at stacks number = items_of (lookup (λ n. number == n) stacks)

-- an address of a region
abbrev pub at_offset : ℕ → ℕ → Addr
at_offset number offset = record { region = number; offset = offset }

-- a free chunk was cut off a block at an offset
pub record IsFree (l : Layout) (size number : ℕ) (block : Block) (offset : ℕ) : Type 0 where
  pub slot : IsSlot size offset
  pub last : offset + (stride size - CHUNK_HEADER) + block.room ≤ block.size
  pub free : chunk_at l (at_offset number offset) ≡ None

-- a block, with the offsets of its freed chunks, which are the first ones of its stack
pub record IsFilled (l : Layout) (size number : ℕ) (block : Block) (stack : List ℕ) : Type 0 where
  pub bytes : block.size ≡ BLOCK_BYTES
  pub rest : (block.live + block.freed) * stride size + block.room ≡ BLOCK_BYTES - BLOCK_HEADER
  pub long : length stack ≡ per_block size
  pub free : (k : ℕ) → k < block.freed → IsFree l size number block (slice_index stack k)
  pub distinct : (j k : ℕ) → j < k → k < block.freed → slice_index stack j ≢ slice_index stack k

-- the blocks and live chunks of a Slab with chunks of a size, and its stacks
pub record IsSlotted (l : Layout) (size : ℕ) (stacks : List (ℕ × Vec ℕ)) : Type 0 where
  pub kind : l.kind ≡ Slab
  pub first : l.first_number ≡ 0
  pub least : 1 ≤ size
  pub most : size ≤ LARGEST_CHUNK
  pub keeper : block_at l l.keeper ≡ Some first_region
  pub filled : (number : ℕ) (block : Block) → number ≢ l.keeper → block_at l number ≡ Some block → IsFilled l size number block (stack_at stacks number)
  pub chunk : (at : Addr) (chunk : Chunk) → chunk_at l at ≡ Some chunk → chunk ≡ chunk_of size
  pub slot : (at : Addr) (chunk : Chunk) → chunk_at l at ≡ Some chunk → IsSlot size at.offset
  pub owned : (at : Addr) (chunk : Chunk) → chunk_at l at ≡ Some chunk → at.region ≢ l.keeper

abbrev pub HasSlots : Slots → Type 0
HasSlots s = IsSlotted s.blocks s.size s.stacks.entries
