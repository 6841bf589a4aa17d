-- What a memory context of any kind has in a space. The allocators, the context that is one of them, and
-- the tree of contexts cite these words.
use Rattle.std.specs.Prelude.{◌≡◌, ◌≢◌, ◌↔◌, ℕ, ◌+◌, ◌^◌, ◌<◌, ◌≤◌, ◌==◌, List, length, Option, Some, None, if◌then◌else◌, slice_index_or, map}
use Rattle.addr_space.specs.declared.Addr.{Addr}
use Rattle.addr_space.specs.Space.{Region, Space, accounts, region_at, byte_at, held, HasBytes, IsApart, Changes, overwritten}

-- the account and the number that the context was created with; the length of each region that it owns, and
-- of all together; how many first bytes of each region are the context's own, which no chunk has; the bytes
-- that must stay as it wrote them, by their first address; and the size of each live chunk and of each free one,
-- by its address
pub record Footprint : Type 0 where
  pub account : ℕ
  pub context : ℕ
  pub total : ℕ
  pub region : ℕ → Option ℕ
  pub front : ℕ → ℕ
  pub mark : Addr → Option (List ℕ)
  pub live : Addr → Option ℕ
  pub free : Addr → Option ℕ

-- a context that has nothing: not yet created, or given back
abbrev pub nothing : ℕ → ℕ → Footprint
nothing account context = record {
  account = account;
  context = context;
  total = 0;
  region = λ _. None;
  front = λ _. 0;
  mark = λ _. None;
  live = λ _. None;
  free = λ _. None;
}

-- so many bytes from an address on are inside a region of the context
abbrev pub IsWithin : Footprint → Addr → ℕ → Type 0
IsWithin f at n = (len : ℕ) × (f.region at.region ≡ Some len) × (at.offset + n ≤ len)

-- chunks and marks lie inside the regions, chunks behind what is the context's own; a live chunk has no byte in
-- common with another, with a free chunk or with a mark; and no region is longer than 2 ^ 31 bytes, so that an
-- offset inside a chunk fits 32 bits
pub record IsSound (f : Footprint) : Type 0 where
  pub live_inside : (at : Addr) (size : ℕ) → f.live at ≡ Some size → IsWithin f at size
  pub free_inside : (at : Addr) (size : ℕ) → f.free at ≡ Some size → IsWithin f at size
  pub mark_inside : (at : Addr) (bytes : List ℕ) → f.mark at ≡ Some bytes → IsWithin f at (length bytes)
  pub live_apart : (a b : Addr) (m n : ℕ) → f.live a ≡ Some m → f.live b ≡ Some n → a ≢ b → IsApart a m b n
  pub free_apart : (a b : Addr) (m n : ℕ) → f.live a ≡ Some m → f.free b ≡ Some n → IsApart a m b n
  pub mark_apart : (a b : Addr) (m : ℕ) (bytes : List ℕ) → f.live a ≡ Some m → f.mark b ≡ Some bytes → IsApart a m b (length bytes)
  pub live_behind : (at : Addr) (size : ℕ) → f.live at ≡ Some size → f.front at.region ≤ at.offset
  pub free_behind : (at : Addr) (size : ℕ) → f.free at ≡ Some size → f.front at.region ≤ at.offset
  pub small : (number len : ℕ) → f.region number ≡ Some len → len ≤ 2 ^ 31

-- a live region of this number counts for this account and has this length
abbrev pub HasRegion : Space → ℕ → ℕ → ℕ → Type 0
HasRegion s number account len =
    (region : Region) × (region_at s number ≡ Some region) × (region.account ≡ account) × (length region.bytes ≡ len)

-- the space has what the context has in it
pub record Agrees (f : Footprint) (s : Space) : Type 0 where
  pub sound : IsSound f
  pub account : f.account < accounts s
  pub regions : (number len : ℕ) → f.region number ≡ Some len → HasRegion s number f.account len
  pub marks : (at : Addr) (bytes : List ℕ) → f.mark at ≡ Some bytes → HasBytes s at bytes

-- a live region that the context doesn't own
abbrev pub IsOutside : Footprint → Space → ℕ → Region → Type 0
IsOutside f s number region = (region_at s number ≡ Some region) × (f.region number ≡ None)

-- how many bytes the context counts for an account
unfoldable pub counted : Footprint → ℕ → ℕ
counted f account = if f.account == account then f.total else 0

-- the context went from one footprint to another and the space from one value to another: the space has what
-- the context now has, and every region outside the context is as it was, with its bytes
pub record Moves (f g : Footprint) (s t : Space) : Type 0 where
  pub agrees : Agrees g t
  pub account : g.account ≡ f.account
  pub context : g.context ≡ f.context
  pub outside : (number : ℕ) (region : Region) → IsOutside f s number region ↔ IsOutside g t number region
  pub accounts : accounts t ≡ accounts s
  pub limit : t.limit ≡ s.limit
  pub held : (account : ℕ) → held t account + counted f account ≡ held s account + counted g account

-- the space has the same bytes in every chunk that was live and is live, as far as both sizes go
abbrev pub Keeps : Footprint → Footprint → Space → Space → Type 0
Keeps f g s t =
    (at : Addr) (m n k : ℕ) → f.live at ≡ Some m → g.live at ≡ Some n → k < m → k < n
    → byte_at t at.region (at.offset + k) ≡ byte_at s at.region (at.offset + k)

-- the same, but for one chunk
abbrev pub KeepsBut : Addr → Footprint → Footprint → Space → Space → Type 0
KeepsBut chunk f g s t =
    (at : Addr) (m n k : ℕ) → at ≢ chunk → f.live at ≡ Some m → g.live at ≡ Some n → k < m → k < n
    → byte_at t at.region (at.offset + k) ≡ byte_at s at.region (at.offset + k)

-- no region belongs to both
abbrev pub AreDisjoint : Footprint → Footprint → Type 0
AreDisjoint f g = (number len : ℕ) → f.region number ≡ Some len → g.region number ≡ None

-- the context at a place of a list
abbrev pub context_at : List Footprint → ℕ → Footprint
context_at fs k = slice_index_or fs k (nothing 0 0)

-- the space has what each context of a list has, and no two of them share a region
pub record AllAgree (fs : List Footprint) (s : Space) : Type 0 where
  pub agree : (k : ℕ) → k < length fs → Agrees (context_at fs k) s
  pub disjoint : (j k : ℕ) → j < length fs → k < length fs → j ≢ k → AreDisjoint (context_at fs j) (context_at fs k)

-- bytes are written inside a live chunk
pub record WritesInside (f : Footprint) (s t : Space) (chunk at : Addr) (size : ℕ) (bytes : List ℕ) : Type 0 where
  pub live : f.live chunk ≡ Some size
  pub region : at.region ≡ chunk.region
  pub first : chunk.offset ≤ at.offset
  pub last : at.offset + length bytes ≤ chunk.offset + size
  pub writes : Changes s t at.region (overwritten (region_at s at.region) at.offset (map Some bytes))
