-- What holds of the insides of an AllocSet.
use Rattle.std.specs.Prelude.{◌≡◌, ◌≢◌, ℕ, ◌+◌, ◌-◌, ◌%◌, ◌^◌, ◌<◌, ◌≤◌, ◌==◌, List, [], replicate, length, map, min, Option, Some, None, if◌then◌else◌, sum, sum_by, zero, suc, slice_index_or}
use Rattle.std.specs.Map.{values_of, lookup}
use Rattle.addr_space.specs.declared.Addr.{Addr}
use Rattle.chunk_header.specs.declared.Sizes.{Sizes}
use Rattle.alloc_set.specs.Ledger.{class_size, class_bytes, chunk_limit}
use Rattle.alloc_set.specs.State.{SetState, chunk_at, region_of, start_of, capacity_of}
use Rattle.alloc_set.specs.declared.chunk.Chunk.{Chunk}
use Rattle.alloc_set.specs.declared.chunk.Chunk.TheVariants.{Live, Free, Own}
use Rattle.chunk_header.specs.declared.shelves.Shelf.{Shelf}
use Rattle.chunk_header.specs.Shelves.{no_shelf}
use Rattle.alloc_set.specs.declared.books.Books.{Books}
use Rattle.alloc_set.specs.Listed.{IsUnique}
use Rattle.chunk_header.specs.declared.TheConstants.{BLOCK_HEADER, CHUNK_HEADER, KEEPER_HEADERS, OWN_HEADERS, LEAST_BLOCK, LARGEST_BLOCK, LAST_CLASS, CLASSES}

-- the books of a new context whose first block is in a region, with the maps of others
abbrev pub new_books : ℕ → ℕ → Sizes → ℕ → Books → Books
new_books account context sizes region b = record {
  account = account;
  context = context;
  sizes = sizes;
  limit = chunk_limit sizes.max;
  next = sizes.init;
  keeper = region;
  active = record { region = region; size = sizes.init; room = sizes.init - KEEPER_HEADERS };
  blocks = b.blocks;
  chunks = b.chunks;
  shelves = replicate CLASSES no_shelf;
  total = sizes.init;
  count = 1;
  idle = 0;
}

-- the value that contracts see
abbrev pub state_of : Books → SetState
state_of b = record {
  ledger = record {
    init = b.sizes.init;
    max = b.sizes.max;
    next = b.next;
    total = b.total;
    blocks = b.count;
    room = b.active.room;
    idle = b.idle;
    free = map (λ s. s.count) b.shelves;
  };
  account = b.account;
  context = b.context;
  keeper = b.keeper;
  blocks = b.blocks.entries;
  chunks = b.chunks.entries;
}

-- a chunk's size is within what it may have
abbrev pub IsSized : Chunk → Type 0
IsSized (Live class size) = (class ≤ LAST_CLASS) × (size ≤ class_size class)
IsSized (Free class next) = class ≤ LAST_CLASS
IsSized (Own size room) = size ≤ room

-- a chunk that has its block for itself is the first of a region that is neither the keeper's nor the active
-- block's, and ends with it
abbrev pub IsAlone : SetState → ℕ → Addr → Chunk → Type 0
IsAlone s active at (Live class size) = Unit {0}
IsAlone s active at (Free class next) = Unit {0}
IsAlone s active at (Own size room) = (at.region ≢ active) × (at.region ≢ s.keeper) × (at.offset ≡ OWN_HEADERS) × (region_of s at.region ≡ Some (room + OWN_HEADERS))

-- where a chunk is: in a region of the context, behind a header of its own, and below the active block's room
pub record IsPlaced (s : SetState) (active size : ℕ) (at : Addr) (chunk : Chunk) : Type 0 where
  pub len : ℕ
  pub owned : region_of s at.region ≡ Some len
  pub first : start_of s at.region + OWN_HEADERS ≤ at.offset
  pub last : at.offset + capacity_of chunk ≤ len
  pub whole : at.offset % 8 ≡ 0
  pub below : at.region ≡ active → at.offset + capacity_of chunk + s.ledger.room ≤ size
  pub sized : IsSized chunk
  pub alone : IsAlone s active at chunk

-- the blocks and the chunks in them, where the active block is in this region and has this size
pub record IsSettled (s : SetState) (active size : ℕ) : Type 0 where
  pub active_owned : region_of s active ≡ Some size
  pub active_room : start_of s active + BLOCK_HEADER + s.ledger.room ≤ size
  pub small : (number len : ℕ) → region_of s number ≡ Some len → (len ≤ 2 ^ 31) × (start_of s number + BLOCK_HEADER ≤ len) × (number < 2 ^ 32)
  pub placed : (at : Addr) (chunk : Chunk) → chunk_at s at ≡ Some chunk → IsPlaced s active size at chunk
  pub apart : (a b : Addr) (first second : Chunk) → chunk_at s a ≡ Some first → chunk_at s b ≡ Some second → a.region ≡ b.region → a.offset < b.offset → a.offset + capacity_of first + CHUNK_HEADER ≤ b.offset

-- so many free chunks of a class, each of which names the next one
abbrev pub IsChain : (Addr → Option Chunk) → ℕ → ℕ → Option Addr → Type 0
IsChain chunks class zero first = first ≡ None
IsChain chunks class (suc count) first =
    (at : Addr) × (next : Option Addr) × (first ≡ Some at) × (chunks at ≡ Some (Free class next)) × IsChain chunks class count next

-- the number of free chunks of a class
abbrev pub is_free : ℕ → Chunk → ℕ
is_free class (Live other size) = 0
is_free class (Free other next) = if class == other then 1 else 0
is_free class (Own size room) = 0

-- the first free chunk of a class and their number
abbrev pub shelf_at : List Shelf → ℕ → Shelf
shelf_at shelves class = slice_index_or shelves class no_shelf

pub record IsShelved (s : SetState) (shelves : List Shelf) : Type 0 where
  pub eleven : length shelves ≡ CLASSES
  pub chain : (class : ℕ) → class < CLASSES → IsChain (chunk_at s) class (shelf_at shelves class).count (shelf_at shelves class).first
  pub counted : (class : ℕ) → class < CLASSES → (shelf_at shelves class).count ≡ sum_by (is_free class) (values_of s.chunks)
  pub unique : IsUnique s.chunks

-- what a chunk takes of the total: its header counts too, and that of its block where it has the block for itself
abbrev pub taken_bytes : Chunk → ℕ
taken_bytes (Live class size) = class_bytes class
taken_bytes (Free class next) = class_bytes class
taken_bytes (Own size room) = room + OWN_HEADERS

-- the numbers: no other block has the keeper's, each counts 1, and no byte is taken twice
pub record IsCounted (b : Books) : Type 0 where
  pub sizes : (LEAST_BLOCK ≤ b.sizes.init) × (b.sizes.init ≤ b.sizes.max) × (b.sizes.max ≤ LARGEST_BLOCK) × (b.sizes.init % 8 ≡ 0) × (b.sizes.max % 8 ≡ 0)
  pub next : (LEAST_BLOCK ≤ b.next) × (b.next ≤ b.sizes.max) × (b.next % 8 ≡ 0)
  pub limit : b.limit ≡ chunk_limit b.sizes.max
  pub filled : (b.active.size - b.active.room) % 8 ≡ 0
  pub keeper : lookup (λ n. b.keeper == n) b.blocks.entries ≡ None
  pub total : b.total ≡ b.sizes.init + sum (values_of b.blocks.entries)
  pub most : b.total ≤ 2 ^ 57
  pub blocks : b.count ≡ 1 + sum_by (min 1) (values_of b.blocks.entries)
  pub rooms : b.active.room + b.idle + sum_by taken_bytes (values_of b.chunks.entries) ≤ b.total

-- no chunk is there, and the keeper, with its whole room, is active
pub record IsCleared (b : Books) : Type 0 where
  pub next : b.next ≡ b.sizes.init
  pub active : b.active ≡ record { region = b.keeper; size = b.sizes.init; room = b.sizes.init - KEEPER_HEADERS }
  pub chunks : b.chunks.entries ≡ []
  pub shelves : b.shelves ≡ replicate CLASSES no_shelf
  pub idle : b.idle ≡ 0

-- all that the code keeps
pub record IsKept (b : Books) : Type 0 where
  pub counted : IsCounted b
  pub settled : IsSettled (state_of b) b.active.region b.active.size
  pub shelved : IsShelved (state_of b) b.shelves
