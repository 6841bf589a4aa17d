-- What contracts see of the blocks of a context: where they are, and the live chunks in them.
use Rattle.std.specs.Prelude.{ℕ, ◌+◌, ◌-◌, ◌==◌, List, [], ◌∷◌, Option, Some, None, if◌then◌else◌, nat_le, min, sum_by, option_map, option_and_then}
use Rattle.std.specs.Map.{lookup, values_of}
use Rattle.addr_space.specs.declared.Addr.{Addr}
use Rattle.addr_space.specs.Footprint.{Footprint}
use Rattle.chunk_header.specs.declared.Header.{Header}
use Rattle.chunk_header.specs.declared.Kind.{Kind}
use Rattle.chunk_header.specs.declared.Kind.TheVariants.{Bump}
use Rattle.chunk_header.specs.Header.{header_bytes, block_bytes}
use Rattle.ctx_blocks.specs.declared.parts.Block.{Block}
use Rattle.ctx_blocks.specs.declared.parts.Chunk.{Chunk}
use Rattle.addr_space.specs.Live.{same_addr}
use Rattle.chunk_header.specs.declared.TheConstants.{CONTEXT_BYTES, BLOCK_HEADER, CHUNK_HEADER}

-- the kind of the context; the account and the number that it was created with; the region of the keeper; the
-- numbers of the keeper and of the block that was taken last; each block by its region, in the order in which they
-- were taken; and each live chunk by its address
pub record Layout : Type 0 where
  pub kind : Kind
  pub account : ℕ
  pub context : ℕ
  pub keeper : ℕ
  pub first_number : ℕ
  pub last_number : ℕ
  pub blocks : List (ℕ × Block)
  pub chunks : List (Addr × Chunk)

-- the block in a region, and the live chunk at an address
abbrev pub block_at : Layout → ℕ → Option Block
block_at l number = lookup (λ n. number == n) l.blocks

abbrev pub chunk_at : Layout → Addr → Option Chunk
chunk_at l at = lookup (same_addr at) l.chunks

-- the bytes of all regions, the rooms of all blocks, and how many chunks were freed in all of them
abbrev pub total : Layout → ℕ
total l = sum_by (λ b. b.size) (values_of l.blocks)

abbrev pub rooms : Layout → ℕ
rooms l = sum_by (λ b. b.room) (values_of l.blocks)

abbrev pub all_freed : Layout → ℕ
all_freed l = sum_by (λ b. b.freed) (values_of l.blocks)

-- how many live chunks a region has
abbrev pub is_in : ℕ → Addr × Chunk → ℕ
is_in number e = if e.0.region == number then 1 else 0

abbrev pub count_in : Layout → ℕ → ℕ
count_in l number = sum_by (is_in number) l.chunks

-- how many bytes of a region stand before the header of its block
abbrev pub start_of : Layout → ℕ → ℕ
start_of l number = if l.keeper == number then CONTEXT_BYTES else 0

-- the bytes of the header of a chunk
abbrev pub gap_of : Kind → ℕ
gap_of Bump = 0
gap_of _ = 8

abbrev pub header_room : Layout → ℕ
header_room l = gap_of l.kind

-- the room of a block of so many bytes without chunks, where so many bytes stand before its header; one that has
-- no place for its header has none
abbrev pub whole_room : ℕ → ℕ → ℕ
whole_room start size = size - start - BLOCK_HEADER

abbrev pub whole_of : Layout → ℕ → ℕ → ℕ
whole_of l number size = whole_room (start_of l number) size

-- a block of a number and of so many bytes with its whole room
abbrev pub whole_block : ℕ → ℕ → ℕ → Block
whole_block number start size = record { number = number; size = size; room = whole_room start size; live = 0; freed = 0 }

-- the keeper in a region, of a number and of so many bytes, alone
abbrev pub keeper_alone : ℕ → ℕ → ℕ → List (ℕ × Block)
keeper_alone keeper number size = (keeper, whole_block number CONTEXT_BYTES size) ∷ []

-- the header of a chunk, so far from the header of its block
abbrev pub header_of : Kind → Chunk → ℕ → Header
header_of kind chunk dist = record { kind = kind; own = chunk.own; value = if chunk.own then 0 else chunk.room; dist = dist }

-- the bytes before a chunk: a Bump writes none
abbrev pub chunk_word : Kind → Chunk → ℕ → Option (List ℕ)
chunk_word Bump chunk dist = None
chunk_word kind chunk dist = Some (header_bytes (header_of kind chunk dist))

-- the first bytes of a block's header, where the region has room for one
abbrev pub block_word : ℕ → ℕ → Block → Option (List ℕ)
block_word context start block = if nat_le (start + BLOCK_HEADER) block.size then Some (block_bytes context block.size) else None

-- the marks: a block's header begins with the context's number and the block's size, and a chunk's header
-- stands before it
unfoldable pub mark_of : Layout → Addr → Option (List ℕ)
mark_of l at =
    if at.offset == start_of l at.region then option_and_then (block_word l.context (start_of l at.region)) (block_at l at.region)
    else option_and_then (λ chunk. chunk_word l.kind chunk (at.offset - start_of l at.region)) (chunk_at l (record { region = at.region; offset = at.offset + CHUNK_HEADER }))

-- how many first bytes of a region no chunk has: those before the block's header, and that
abbrev pub front_of : ℕ → Option Block → ℕ
front_of start None = 0
front_of start (Some block) = min (start + BLOCK_HEADER) block.size

-- what the context has in a space
abbrev pub footprint : Layout → Footprint
footprint l = record {
  account = l.account;
  context = l.context;
  total = total l;
  region = λ number. option_map (λ b. b.size) (block_at l number);
  front = λ number. front_of (start_of l number) (block_at l number);
  mark = mark_of l;
  live = λ at. option_map (λ c. c.size) (chunk_at l at);
  free = λ at. None;
}
