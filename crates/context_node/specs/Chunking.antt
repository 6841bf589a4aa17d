-- What calls on a chunk do to its context, and to the names of chunks.
use Rattle.std.specs.Prelude.{◌≡◌, ◌≢◌, ◌+◌, ◌≤◌, max, min, length, map, ℕ, true, List, Option, Some, None, Ok, if◌then◌else◌}
use Rattle.addr_space.specs.declared.Addr.{Addr}
use Rattle.addr_space.specs.Space.{Space, Changes, HasBytes, IsKnown, region_at, overwritten}
use Rattle.addr_space.specs.Footprint as foot
use Rattle.addr_space.specs.Live.{PutsAt, PutsLive, MovesLive, HasBytesOf}
use Rattle.forest.specs.Forest.{Forest, Empty, Node, at as entry_at, changed, removed}
use Rattle.any_ctx.specs.Ledgers.{Place, give, stats}
use Rattle.any_ctx.specs.Contexts.{footprint, ledger, place_at}
use Rattle.any_ctx.specs.Calls.{Takes, Resizes}
use Rattle.context_node.specs.declared.chunk_id.ChunkId.{ChunkId}
use Rattle.context_node.specs.declared.entry.Entry.{Entry}
use Rattle.context_node.specs.Kept.{Kept}
use Rattle.context_node.specs.Soundness.{same}

-- an entry of a chunk that was just taken
abbrev pub taken_entry : Option (List ℕ) → Addr → ℕ → ℕ → Entry
taken_entry name at size known = record { name = name; at = at; size = size; known = known }

-- the places with that of one more chunk, if it has a name: it is kept in this slot then
abbrev pub placed : Option (List ℕ) → ℕ → ℕ → Forest ℕ → Forest ℕ
placed None number slot places = places
placed (Some _) number slot places = Node number slot Empty places

-- the context has a chunk more, whose entry has this number and slot, with these bytes known, and every other one keeps
-- its bytes
pub record Took (k l : Kept) (number slot : ℕ) (name : Option (List ℕ)) (size : ℕ) (known : List ℕ) (s t : Space) : Type 0 where
  pub at : Addr
  pub takes : Takes k.memory l.memory size at s t
  pub fresh : (footprint k.memory).live at ≡ None
  pub live : PutsLive (footprint k.memory) (footprint l.memory) at (Some size)
  pub moves : foot.Moves (footprint k.memory) (footprint l.memory) s t
  pub keeps : foot.Keeps (footprint k.memory) (footprint l.memory) s t
  pub now : l ≡ record k { used = true; memory = l.memory; chunks = Node number (taken_entry name at size (length known)) Empty k.chunks; chunk_places = placed name number slot k.chunk_places }
  pub total : (footprint l.memory).total ≡ (stats (ledger l.memory)).total
  pub fits : length known ≤ size
  pub has : HasBytes t at known

-- a map of names with one more, if the chunk has one
abbrev pub entered : Option (List ℕ) → ChunkId → (List ℕ → Option ChunkId) → List ℕ → Option ChunkId
entered None id find w = find w
entered (Some name) id find w = if same name w then Some id else find w

-- the context has a chunk less, whose entry had this number, and every other one keeps its bytes
pub record Freed (k l : Kept) (number : ℕ) (s t : Space) : Type 0 where
  pub entry : Entry
  pub listed : entry_at number k.chunks ≡ Some entry
  pub place : Place
  pub placed : place_at k.memory entry.at ≡ Some place
  pub given : give (ledger k.memory) place ≡ Ok (ledger l.memory)
  pub places : PutsAt (place_at k.memory) (place_at l.memory) entry.at None
  pub live : PutsLive (footprint k.memory) (footprint l.memory) entry.at None
  pub moves : foot.Moves (footprint k.memory) (footprint l.memory) s t
  pub keeps : foot.Keeps (footprint k.memory) (footprint l.memory) s t
  pub now : l ≡ record k { memory = l.memory; chunks = removed number k.chunks; chunk_places = removed number k.chunk_places }
  pub stays : (other : ℕ) → other ≢ number → entry_at other (removed number k.chunk_places) ≡ entry_at other k.chunk_places
  pub total : (footprint l.memory).total ≡ (stats (ledger l.memory)).total

-- bytes were written in a chunk of the context, from a place among its known bytes or right behind them
pub record Written (k l : Kept) (number place : ℕ) (bytes : List ℕ) (s t : Space) : Type 0 where
  pub entry : Entry
  pub listed : entry_at number k.chunks ≡ Some entry
  pub within : place ≤ entry.known
  pub fits : place + length bytes ≤ entry.size
  pub now : l ≡ record k { chunks = changed number (λ _. record entry { known = max entry.known (place + length bytes) }) k.chunks }
  pub writes : Changes s t entry.at.region (overwritten (region_at s entry.at.region) (entry.at.offset + place) (map Some bytes))

-- a chunk of the context has another size, and every other one keeps its bytes
pub record Refitted (k l : Kept) (number size : ℕ) (s t : Space) : Type 0 where
  pub entry : Entry
  pub listed : entry_at number k.chunks ≡ Some entry
  pub to : Addr
  pub place : Place
  pub placed : place_at k.memory entry.at ≡ Some place
  pub resizes : Resizes k.memory l.memory place size entry.at to s t
  pub fresh : to ≢ entry.at → (footprint k.memory).live to ≡ None
  pub live : MovesLive (footprint k.memory) (footprint l.memory) entry.at to size
  pub bytes : HasBytesOf s t entry.at to (min entry.known size)
  pub known : IsKnown t to (min entry.known size)
  pub moves : foot.Moves (footprint k.memory) (footprint l.memory) s t
  pub keeps : foot.KeepsBut entry.at (footprint k.memory) (footprint l.memory) s t
  pub now : l ≡ record k { memory = l.memory; chunks = changed number (λ _. record entry { at = to; size = size; known = min entry.known size }) k.chunks }
  pub total : (footprint l.memory).total ≡ (stats (ledger l.memory)).total
