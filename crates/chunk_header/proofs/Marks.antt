-- Lemmas on headers that stand in a space.
use Rattle.addr_space.specs.declared.Addr.{Addr}
use Rattle.addr_space.specs.Space.{Space}
use Rattle.addr_space.specs.Footprint.{Footprint, Agrees}
use Rattle.chunk_header.specs.Header.{header_place, header_bytes, block_place, block_bytes, IsMarked, IsHeaded}

-- a chunk that its context's marks head is marked in the space, by the same header
abbrev pub marked_by : (f : Footprint) (s : Space) (at : Addr) → Agrees f s → IsHeaded f at → IsMarked s at f.context
marked_by f s at agrees headed = record {
  header = headed.header;
  size = headed.size;
  packable = headed.packable;
  leading = headed.leading;
  behind = headed.behind;
  large = headed.large;
  word = agrees.marks (header_place at) (header_bytes headed.header) headed.word;
  block = agrees.marks (block_place at headed.header) (block_bytes f.context headed.size) headed.block;
}
