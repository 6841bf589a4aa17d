-- What calls do to the blocks and chunks of a context.
use Rattle.std.specs.Prelude.{◌≡◌, ℕ, ◌==◌, List, [], ◌∷◌, Option, Some, None, false, if◌then◌else◌, unwrap_or}
use Rattle.std.specs.Map.{lookup}
use Rattle.addr_space.specs.declared.Addr.{Addr}
use Rattle.addr_space.specs.Space.{Space}
use Rattle.addr_space.specs.Footprint.{Agrees, Moves}
use Rattle.indexmap.specs.IndexMap.{insert_entry, shift_remove_entry}
use Rattle.addr_space.specs.Live.{same_addr}
use Rattle.ctx_blocks.specs.Layout.{Layout, block_at, chunk_at, footprint}
use Rattle.ctx_blocks.specs.declared.parts.Block.{Block}
use Rattle.ctx_blocks.specs.declared.parts.Chunk.{Chunk}

-- the blocks with this one in the place of that of its region, or as the last one
abbrev pub with_block : List (ℕ × Block) → ℕ → Block → List (ℕ × Block)
with_block blocks number block = insert_entry (λ a b. a == b) blocks number block

-- the blocks without that of a region, in their order
abbrev pub without_block : List (ℕ × Block) → ℕ → List (ℕ × Block)
without_block blocks number = shift_remove_entry (λ n. number == n) blocks

-- a chunk without bytes
abbrev pub no_chunk : Chunk
no_chunk = record { size = 0; room = 0; own = false }

-- the live chunks with this one at its address, with another size of the one there, or without that
abbrev pub with_chunk : List (Addr × Chunk) → Addr → Chunk → List (Addr × Chunk)
with_chunk chunks at chunk = insert_entry same_addr chunks at chunk

abbrev pub with_size : List (Addr × Chunk) → Addr → ℕ → List (Addr × Chunk)
with_size chunks at size = with_chunk chunks at (record (unwrap_or (lookup (same_addr at) chunks) no_chunk) { size = size })

abbrev pub without_chunk : List (Addr × Chunk) → Addr → List (Addr × Chunk)
without_chunk chunks at = shift_remove_entry (same_addr at) chunks

-- no two chunks of a list are at one address
abbrev pub AreUnique : List (Addr × Chunk) → Type 0
AreUnique [] = Unit {0}
AreUnique (e ∷ es) = (lookup (same_addr e.0) es ≡ None) × AreUnique es

-- one region has another block, and every other block stays, in its place
pub record PutsBlock (l m : Layout) (number : ℕ) (block : Block) : Type 0 where
  pub blocks : m.blocks ≡ with_block l.blocks number block
  pub at : (other : ℕ) → block_at m other ≡ (if number == other then Some block else block_at l other)

-- one region is no block any more, and every other block stays, in its order
pub record DropsBlock (l m : Layout) (number : ℕ) : Type 0 where
  pub blocks : m.blocks ≡ without_block l.blocks number
  pub at : (other : ℕ) → block_at m other ≡ (if number == other then None else block_at l other)

-- one address has this live chunk or none, and every other one has what it had
abbrev pub PutsChunk : Layout → Layout → Addr → Option Chunk → Type 0
PutsChunk l m at chunk = (other : Addr) → chunk_at m other ≡ (if same_addr at other then chunk else chunk_at l other)

-- what no call changes
pub record SameContext (l m : Layout) : Type 0 where
  pub kind : m.kind ≡ l.kind
  pub account : m.account ≡ l.account
  pub context : m.context ≡ l.context
  pub keeper : m.keeper ≡ l.keeper
  pub first_number : m.first_number ≡ l.first_number

-- the context's books go from one layout to another, while the space stays
abbrev pub MovesStill : Layout → Layout → Type 0
MovesStill l m = (s : Space) → Agrees (footprint l) s → Moves (footprint l) (footprint m) s s
