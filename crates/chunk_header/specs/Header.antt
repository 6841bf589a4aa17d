-- The words that a context writes before its chunks and at the start of its blocks.
use Rattle.std.specs.Prelude.{◌≡◌, ℕ, ◌+◌, ◌-◌, ◌*◌, ◌/◌, ◌%◌, ◌^◌, ◌<◌, ◌≤◌, ◌++◌, List, Bool, true, false, Some, if◌then◌else◌}
use Rattle.std.specs.Int.{to_le_bytes, w32, w64}
use Rattle.addr_space.specs.declared.Addr.{Addr}
use Rattle.addr_space.specs.Space.{Space, HasBytes}
use Rattle.addr_space.specs.Footprint.{Footprint}
use Rattle.chunk_header.specs.declared.Kind.{Kind}
use Rattle.chunk_header.specs.declared.Kind.TheVariants.{AllocSet, Slab, Generation, Bump, Aligned}
use Rattle.chunk_header.specs.declared.Header.{Header}
use Rattle.chunk_header.specs.declared.TheConstants.{BLOCK_HEADER, CHUNK_HEADER, OWN_HEADERS, LAST_CLASS}

-- the lowest four bits of a header's word
abbrev pub kind_code : Kind → ℕ
kind_code AllocSet = 1
kind_code Slab = 2
kind_code Generation = 3
kind_code Bump = 4
kind_code Aligned = 5

-- the next bit: whether the chunk has its block for itself
abbrev pub own_bit : Bool → ℕ
own_bit true = 1
own_bit false = 0

-- a header's word: from the lowest bit 4 bits of the kind, 1 of the block, 30 of the value, 29 of an eighth
-- of the distance
unfoldable pub word_of : Header → ℕ
word_of h = kind_code h.kind + 2 ^ 4 * (own_bit h.own + 2 * (h.value + 2 ^ 30 * (h.dist / 8)))

-- the header's parts have room in its word
pub record IsPackable (h : Header) : Type 0 where
  pub value : h.value < 2 ^ 30
  pub dist : h.dist < 2 ^ 32
  pub whole : h.dist % 8 ≡ 0

-- the bytes of a header's word, lowest first
unfoldable pub header_bytes : Header → List ℕ
header_bytes h = to_le_bytes w64 (word_of h)

-- the first bytes of a block: the number of its context, and its size
unfoldable pub block_bytes : ℕ → ℕ → List ℕ
block_bytes context size = to_le_bytes w32 context ++ to_le_bytes w32 size

-- the headers by which a chunk leads to its context
abbrev pub IsLeading : Header → Type 0
IsLeading h = IsLeadingKind h.kind h.value
  where
    IsLeadingKind : Kind → ℕ → Type 0
    IsLeadingKind AllocSet value = value ≤ LAST_CLASS
    IsLeadingKind Slab value = Unit {0}
    IsLeadingKind Generation value = Unit {0}
    IsLeadingKind Bump value = ⊥
    IsLeadingKind Aligned value = ⊥

-- where the header of a chunk stands, and the header of its block
abbrev pub header_place : Addr → Addr
header_place at = record { region = at.region; offset = at.offset - CHUNK_HEADER }

abbrev pub block_place : Addr → Header → Addr
block_place at h = record { region = at.region; offset = at.offset - CHUNK_HEADER - h.dist }

-- the bytes before an address lead to a block, and that to the number of a context
pub record IsMarked (s : Space) (at : Addr) (context : ℕ) : Type 0 where
  pub header : Header
  pub size : ℕ
  pub packable : IsPackable header
  pub leading : IsLeading header
  pub behind : header.dist + CHUNK_HEADER ≤ at.offset
  pub large : OWN_HEADERS ≤ size
  pub word : HasBytes s (header_place at) (header_bytes header)
  pub block : HasBytes s (block_place at header) (block_bytes context size)

-- the context's marks do so
pub record IsHeaded (f : Footprint) (at : Addr) : Type 0 where
  pub header : Header
  pub size : ℕ
  pub packable : IsPackable header
  pub leading : IsLeading header
  pub behind : header.dist + CHUNK_HEADER ≤ at.offset
  pub large : OWN_HEADERS ≤ size
  pub word : f.mark (header_place at) ≡ Some (header_bytes header)
  pub block : f.mark (block_place at header) ≡ Some (block_bytes f.context size)

-- each live chunk leads to its context
abbrev pub AllHeaded : Footprint → Type 0
AllHeaded f = (at : Addr) (size : ℕ) → f.live at ≡ Some size → IsHeaded f at

-- and its header names this kind
abbrev pub AllOfKind : Kind → Footprint → Type 0
AllOfKind kind f = (at : Addr) (size : ℕ) → f.live at ≡ Some size → (headed : IsHeaded f at) × (headed.header.kind ≡ kind)

-- the bytes of a chunk that shares its block: an AllocSet's header has the class, the others' the bytes
abbrev pub shared_bytes : Kind → ℕ → ℕ
shared_bytes AllocSet value = 8 * 2 ^ value
shared_bytes Slab value = value
shared_bytes Generation value = value
shared_bytes Bump value = value
shared_bytes Aligned value = value

-- what a chunk takes in its block, with its header: one that has its block for itself takes all but the header
-- of the block
unfoldable pub space_of : Header → ℕ → ℕ
space_of header size = if header.own then size - BLOCK_HEADER else shared_bytes header.kind header.value + CHUNK_HEADER

-- the context's marks say that a chunk takes so many bytes in its block, with its header
pub record TakesSpace (f : Footprint) (at : Addr) (space : ℕ) : Type 0 where
  pub headed : IsHeaded f at
  pub small : headed.size < 2 ^ 32
  pub is : space_of headed.header headed.size ≡ space
