-- The chunks that stand at addresses, as a list.
use Rattle.std.specs.Prelude.{List, ◌∷◌}
use Rattle.std.specs.List.{IsDistinct}
use Rattle.std.specs.Map.{keys_of, remove_entry}
use Rattle.addr_space.specs.declared.Addr.{Addr}
use Rattle.addr_space.specs.Live.{same_addr}
use Rattle.alloc_set.specs.declared.chunk.Chunk.{Chunk}

-- without what stands at an address
abbrev pub without_chunk : List (Addr × Chunk) → Addr → List (Addr × Chunk)
without_chunk chunks at = remove_entry (same_addr at) chunks

-- with a chunk there
abbrev pub with_chunk : List (Addr × Chunk) → Addr → Chunk → List (Addr × Chunk)
with_chunk chunks at chunk = (at, chunk) ∷ without_chunk chunks at

-- one chunk at most stands at each address
abbrev pub IsUnique : List (Addr × Chunk) → Type 0
IsUnique chunks = IsDistinct same_addr (keys_of chunks)
