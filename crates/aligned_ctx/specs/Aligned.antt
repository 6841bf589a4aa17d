-- Aligned chunks: what one asks of its context, where it begins in the chunk that it gets, and the word that leads back to that chunk.
use Rattle.std.specs.Prelude.{◌≡◌, ℕ, ◌+◌, ◌-◌, ◌*◌, ◌/◌, ◌^◌, ◌⊎◌, min, false}
use Rattle.addr_space.specs.declared.Addr.{Addr}
use Rattle.addr_space.specs.Space.{Space, HasBytes}
use Rattle.chunk_header.specs.declared.Header.{Header}
use Rattle.chunk_header.specs.declared.Kind.TheVariants.{Aligned}
use Rattle.chunk_header.specs.declared.TheConstants.{CHUNK_HEADER}
use Rattle.chunk_header.specs.Header.{header_bytes, header_place, IsMarked, IsPackable}

-- the alignments: powers of two from 16 to 4,096
abbrev pub IsAlignment : ℕ → Type 0
IsAlignment align =
    (align ≡ 16) ⊎ (align ≡ 32) ⊎ (align ≡ 64) ⊎ (align ≡ 128) ⊎ (align ≡ 256) ⊎ (align ≡ 512) ⊎ (align ≡ 1024) ⊎ (align ≡ 2048) ⊎ (align ≡ 4096)

-- the bytes that an aligned chunk asks for: its own and as many as its alignment, or 2^64 - 1 where that is more
abbrev pub requested : ℕ → ℕ → ℕ
requested size align = min (size + align) (2 ^ 64 - 1)

-- the least multiple of the alignment that is no less
unfoldable pub rounded_up : ℕ → ℕ → ℕ
rounded_up n align = (n + (align - 1)) / align * align

-- where the aligned chunk begins in a chunk: at the first multiple that leaves room for its header
abbrev pub aligned_place : Addr → ℕ → Addr
aligned_place inner align = record { region = inner.region; offset = rounded_up (inner.offset + CHUNK_HEADER) align }

-- the header of an aligned chunk: the bytes from the start of the inner chunk to that header
abbrev pub redirect : ℕ → ℕ → Header
redirect align dist = record { kind = Aligned; own = false; value = align; dist = dist }

-- The 8 bytes before an address are the header of an aligned chunk, and the chunk around it begins at `inner`.
pub record LeadsInside (s : Space) (at inner : Addr) : Type 0 where
  pub align : ℕ
  pub dist : ℕ
  pub packable : IsPackable (redirect align dist)
  pub region : at.region ≡ inner.region
  pub offset : at.offset ≡ inner.offset + dist + CHUNK_HEADER
  pub word : HasBytes s (header_place at) (header_bytes (redirect align dist))

-- an aligned chunk that leads to one of this context
pub record IsRedirected (s : Space) (at : Addr) (context : ℕ) : Type 0 where
  pub inner : Addr
  pub leads : LeadsInside s at inner
  pub marked : IsMarked s inner context

-- An address leads to a context: by the header of a chunk, or by that of an aligned one, whose inner chunk does.
abbrev pub IsReached : Space → Addr → ℕ → Type 0
IsReached s at context = IsMarked s at context ⊎ IsRedirected s at context
