-- The ledger of a Slab: its blocks by their numbers, without a place in a space.
use Rattle.std.specs.Prelude.{ℕ, ◌+◌, ◌-◌, ◌*◌, ◌/◌, ◌==◌, ◌&&◌, ◌++◌, true, not, List, [], ◌∷◌, length, map, filter, nat_lt, nat_le, if◌then◌else◌, Option, Some, None, Result, Ok, Err, sum_by}
use Rattle.std.specs.Option.{option_map_or}
use Rattle.std.specs.List.{find}
use Rattle.chunk_header.specs.declared.CtxError.{CtxError}
use Rattle.chunk_header.specs.declared.CtxError.TheVariants.{TooBig, NoSpace, WrongSize, Unsupported}
use Rattle.chunk_header.specs.declared.Stats.{Stats}
use Rattle.chunk_header.specs.Answers.{Taken, Resized}
use Rattle.chunk_header.specs.Growth.{up8}
use Rattle.chunk_header.specs.declared.TheConstants.{LARGEST, CONTEXT_BYTES, BLOCK_HEADER, CHUNK_HEADER}
use Rattle.slab_ctx.specs.declared.slots.TheConstants.{BLOCK_BYTES}
use Rattle.slab_ctx.specs.declared.books.TheConstants.{MOST_EMPTY}

-- a block: its number, and how many live chunks it has
pub record SlabBlock : Type 0 where
  pub number : ℕ
  pub live : ℕ

-- the size of all its chunks; how many blocks were taken since it was created or reset, each of which has its place
-- in that order as its number; and the blocks, in the order in which they were taken
pub record SlabLedger : Type 0 where
  pub size : ℕ
  pub count : ℕ
  pub blocks : List SlabBlock

-- a live chunk is in the block of this number
abbrev pub SlabTaken : Type 0
SlabTaken = Taken SlabLedger ℕ

abbrev pub SlabResized : Type 0
SlabResized = Resized SlabLedger ℕ

-- what a chunk takes in a block, with its header
unfoldable pub stride : ℕ → ℕ
stride size = up8 size + CHUNK_HEADER

-- how many chunks a block has
unfoldable pub per_block : ℕ → ℕ
per_block size = (BLOCK_BYTES - BLOCK_HEADER) / stride size

-- a new context: no block
unfoldable pub created : ℕ → SlabLedger
created size = record { size = size; count = 0; blocks = [] }

-- of two blocks the one with more live chunks, and of equal ones the earlier
abbrev pub fuller : SlabBlock → Option SlabBlock → SlabBlock
fuller block None = block
fuller block (Some later) = if nat_lt block.live later.live then later else block

-- the block with the fewest free chunks but at least one, where each has so many chunks in all: of equal ones the
-- one that was taken earliest
abbrev pub serving : ℕ → List SlabBlock → Option SlabBlock
serving per [] = None
serving per (block ∷ blocks) = if nat_lt block.live per then Some (fuller block (serving per blocks)) else serving per blocks

-- the block of a number has so many live chunks
abbrev pub set_live : ℕ → ℕ → SlabBlock → SlabBlock
set_live number live block = if block.number == number then record block { live = live } else block

abbrev pub with_live : List SlabBlock → ℕ → ℕ → List SlabBlock
with_live blocks number live = map (set_live number live) blocks

-- a chunk is taken of a block, or else of a new one, where so much is left of the account
unfoldable pub serve : SlabLedger → ℕ → Option SlabBlock → Result SlabTaken CtxError
serve l left (Some block) = Ok (record { ledger = record l { blocks = with_live l.blocks block.number (block.live + 1) }; place = block.number; asked = 0 })
serve l left None =
    if nat_le BLOCK_BYTES left
    then Ok (record {
      ledger = record l { count = l.count + 1; blocks = l.blocks ++ record { number = l.count + 1; live = 1 } ∷ [] };
      place = l.count + 1;
      asked = BLOCK_BYTES;
    })
    else Err NoSpace

-- a request, where so much is left of the account
unfoldable pub take : SlabLedger → ℕ → ℕ → Result SlabTaken CtxError
take l left size =
    if nat_lt LARGEST size then Err TooBig
    else (if l.size == size then serve l left (serving (per_block l.size) l.blocks) else Err WrongSize)

-- how many blocks have no live chunk
abbrev pub is_empty : ℕ → ℕ
is_empty live = if live == 0 then 1 else 0

abbrev pub empties : List SlabBlock → ℕ
empties blocks = sum_by (λ b. is_empty b.live) blocks

-- how many live chunks the block of a number has
abbrev pub live_in : List SlabBlock → ℕ → ℕ
live_in blocks number = option_map_or (λ b. b.live) (find (λ b. b.number == number) blocks) 0

-- the blocks without that of a number
abbrev pub without_number : List SlabBlock → ℕ → List SlabBlock
without_number blocks number = filter (λ b. not (b.number == number)) blocks

-- the block of a number, which has so many live chunks, has one fewer; it goes back where that was its last one
-- and ten blocks are empty already
abbrev pub lowered : List SlabBlock → ℕ → ℕ → List SlabBlock
lowered blocks number live =
    if (live == 1) && nat_le MOST_EMPTY (empties blocks) then without_number blocks number
    else with_live blocks number (live - 1)

-- a live chunk of the block of a number is freed
unfoldable pub give : SlabLedger → ℕ → SlabLedger
give l number = record l { blocks = lowered l.blocks number (live_in l.blocks number) }

-- a live chunk is to have another size
unfoldable pub resize : SlabLedger → ℕ → ℕ → ℕ → ℕ → Result SlabResized CtxError
resize l held limit place size =
    if nat_lt LARGEST size then Err TooBig
    else (if l.size == size then Ok (record { ledger = l; place = place; asked = 0; stays = true }) else Err Unsupported)

-- all chunks are freed, and all blocks go back
unfoldable pub reset : SlabLedger → SlabLedger
reset l = created l.size

-- what a chunk takes in its block, with its header
abbrev pub chunk_bytes : SlabLedger → ℕ
chunk_bytes l = stride l.size

-- how many free chunks there are
unfoldable pub free_chunks : SlabLedger → ℕ
free_chunks l = sum_by (λ b. per_block l.size - b.live) l.blocks

-- what `stats` answers
unfoldable pub stats : SlabLedger → Stats
stats l = record {
  total = CONTEXT_BYTES + BLOCK_BYTES * length l.blocks;
  blocks = length l.blocks;
  free = stride l.size * free_chunks l;
  chunks = free_chunks l;
}
