-- What contracts see of an AllocSet: its ledger, and where its blocks and chunks are.
use Rattle.std.specs.Prelude.{ℕ, ◌+◌, ◌-◌, ◌==◌, true, false, List, [], Option, Some, None, is_some, option_map, if◌then◌else◌, option_and_then}
use Rattle.std.specs.Option.{option_or}
use Rattle.std.specs.Map.{lookup}
use Rattle.addr_space.specs.declared.Addr.{Addr}
use Rattle.addr_space.specs.Footprint.{Footprint}
use Rattle.chunk_header.specs.declared.Header.{Header}
use Rattle.chunk_header.specs.declared.Kind.TheVariants.{AllocSet as SetKind}
use Rattle.chunk_header.specs.Header.{header_bytes, block_bytes}
use Rattle.alloc_set.specs.Ledger.{SetLedger, SetPlace, Class, Own as OwnPlace, reset, class_size}
use Rattle.alloc_set.specs.declared.chunk.Chunk.{Chunk}
use Rattle.alloc_set.specs.declared.chunk.Chunk.TheVariants.{Live, Free, Own}
use Rattle.addr_space.specs.Live.{same_addr}
use Rattle.chunk_header.specs.declared.TheConstants.{CONTEXT_BYTES, BLOCK_HEADER, CHUNK_HEADER, OWN_HEADERS}

-- the ledger; the account and the number that it was created with; the region of the keeper; the size of each
-- other region, by its number; and what stands at each address where a chunk was cut
pub record SetState : Type 0 where
  pub ledger : SetLedger
  pub account : ℕ
  pub context : ℕ
  pub keeper : ℕ
  pub blocks : List (ℕ × ℕ)
  pub chunks : List (Addr × Chunk)

-- the chunk at an address
abbrev pub chunk_at : SetState → Addr → Option Chunk
chunk_at s at = lookup (same_addr at) s.chunks

-- the length of a region of the context
abbrev pub region_of : SetState → ℕ → Option ℕ
region_of s number = if s.keeper == number then Some s.ledger.init else lookup (λ n. number == n) s.blocks

-- how many bytes of a region stand before the header of its block
abbrev pub start_of : SetState → ℕ → ℕ
start_of s number = if s.keeper == number then CONTEXT_BYTES else 0

-- how many first bytes of a region are the context's own: the header of its block ends there
abbrev pub front_of : SetState → ℕ → ℕ
front_of s number = if is_some (region_of s number) then start_of s number + BLOCK_HEADER else 0

-- the bytes that a chunk may have
abbrev pub capacity_of : Chunk → ℕ
capacity_of (Live class size) = class_size class
capacity_of (Free class next) = class_size class
capacity_of (Own size room) = room

-- the size of a live chunk, and of a free one
abbrev pub live_size : Chunk → Option ℕ
live_size (Live class size) = Some size
live_size (Free class next) = None
live_size (Own size room) = Some size

abbrev pub free_size : Chunk → Option ℕ
free_size (Live class size) = None
free_size (Free class next) = Some (class_size class)
free_size (Own size room) = None

-- the place of a live chunk: an own block has two headers before the chunk
abbrev pub live_place : Chunk → Option SetPlace
live_place (Live class size) = Some (Class class)
live_place (Free class next) = None
live_place (Own size room) = Some (OwnPlace (room + OWN_HEADERS))

abbrev pub place_at : SetState → Addr → Option SetPlace
place_at s at = option_and_then live_place (chunk_at s at)

-- the header of a chunk, so far from the header of its block
abbrev pub header_of : Chunk → ℕ → Header
header_of (Live class size) dist = record { kind = SetKind; own = false; value = class; dist = dist }
header_of (Free class next) dist = record { kind = SetKind; own = false; value = class; dist = dist }
header_of (Own size room) dist = record { kind = SetKind; own = true; value = 0; dist = dist }

-- a context of which all but the keeper went back
abbrev pub emptied : SetState → SetState
emptied s = record s { ledger = reset s.ledger; blocks = []; chunks = [] }

-- a free chunk's first bytes lead to the next one: its region and its offset, which is 0 where there is none
abbrev pub link_bytes : Option Addr → List ℕ
link_bytes None = block_bytes 0 0
link_bytes (Some next) = block_bytes next.region next.offset

abbrev pub link_of : Chunk → Option (List ℕ)
link_of (Live class size) = None
link_of (Free class next) = Some (link_bytes next)
link_of (Own size room) = None

-- the marks: a block's header begins with the context's number and the block's size, a chunk's header stands before
-- it, and a free chunk begins with its link
unfoldable pub mark_of : SetState → Addr → Option (List ℕ)
mark_of s at =
    if at.offset == start_of s at.region then option_map (block_bytes s.context) (region_of s at.region)
    else option_or
    (option_map (λ chunk. header_bytes (header_of chunk (at.offset - start_of s at.region))) (chunk_at s (record { region = at.region; offset = at.offset + CHUNK_HEADER })))
    (option_and_then link_of (chunk_at s at))

-- what the context has in a space
abbrev pub footprint : SetState → Footprint
footprint s = record {
  account = s.account;
  context = s.context;
  total = s.ledger.total;
  region = region_of s;
  front = front_of s;
  mark = mark_of s;
  live = λ at. option_and_then live_size (chunk_at s at);
  free = λ at. option_and_then free_size (chunk_at s at);
}
