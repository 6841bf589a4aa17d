-- What a context stands for in a space.
use Rattle.std.specs.Prelude.{ℕ, List, [], ◌∷◌, map, unwrap_or}
use Rattle.addr_space.specs.declared.Addr.{Addr}
use Rattle.addr_space.specs.Space.{Space, region_at, bytes_of, part}
use Rattle.forest.specs.Forest.{Forest, Empty, Node}
use Rattle.any_ctx.specs.Ledgers.{InSlab}
use Rattle.any_ctx.specs.Contexts.{ledger, place_at}
use Rattle.any_ctx.specs.declared.any.AnyCtx.{AnyCtx}
use Rattle.context_rules.specs.Contexts.{Chunk, Context}
use Rattle.context_node.specs.declared.entry.Entry.{Entry}
use Rattle.context_node.specs.Kept.{Kept}

-- so many bytes of a space from an address on
abbrev pub bytes_at : Space → Addr → ℕ → List ℕ
bytes_at s at n = map (λ byte. unwrap_or byte 0) (part (bytes_of (region_at s at.region)) at.offset n)

-- a chunk in a space: what is known of it is what the space has at its address
abbrev pub chunk_of : Space → AnyCtx → Entry → Chunk
chunk_of s memory e = record {
  name = e.name;
  size = e.size;
  place = unwrap_or (place_at memory e.at) (InSlab 0);
  known = bytes_at s e.at e.known;
}

-- the entries of a forest without children, from the first on
abbrev pub entries : Forest Entry → List Entry
entries Empty = []
entries (Node n e below beside) = e ∷ entries beside

-- a context in a space
abbrev pub context_of : Space → Kept → Context
context_of s k = record {
  name = k.name;
  kind = k.kind;
  protected = k.protected;
  ledger = ledger k.memory;
  used = k.used;
  chunks = map (chunk_of s k.memory) (entries k.chunks);
  hooks = k.hooks;
}
