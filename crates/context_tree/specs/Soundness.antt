-- What holds of a tree of contexts at all times, whatever the space.
use Rattle.std.specs.Prelude.{◌≡◌, ◌⊎◌, ℕ, ◌<◌, ◌≤◌, nat_lt, if◌then◌else◌, true, false, List, Option, Some}
use Rattle.pgs_step.specs.declared.ids.CtxId.{CtxId}
use Rattle.forest.specs.Forest.{Forest, Empty, has, times, at, size}
use Rattle.context_node.specs.declared.chunk_id.ChunkId.{ChunkId}
use Rattle.context_node.specs.declared.entry.Entry.{Entry}
use Rattle.context_tree.specs.declared.tree.Own.{Own}
use Rattle.context_node.specs.Kept.{Kept}
use Rattle.context_node.specs.Soundness.{IsSoundContext}

-- the context of this number has a chunk of this name among its entries
pub record IsChunk (kept : Forest Kept) (places : Forest ℕ) (word : List ℕ) (id : ChunkId) : Type 0 where
  pub context : Kept
  pub entry : Entry
  pub stands : at id.context.number kept ≡ Some context
  pub placed : at id.context.number places ≡ Some id.context.slot
  pub listed : at id.entry.number context.chunks ≡ Some entry
  pub entry_placed : at id.entry.number context.chunk_places ≡ Some id.entry.slot
  pub name : entry.name ≡ Some word

-- the context of this number and slot isn't protected and has this name
pub record IsNamed (kept : Forest Kept) (places : Forest ℕ) (word : List ℕ) (id : CtxId) : Type 0 where
  pub context : Kept
  pub stands : at id.number kept ≡ Some context
  pub placed : at id.number places ≡ Some id.slot
  pub findable : context.protected ≡ false
  pub name : context.name ≡ word

-- one of the session's own contexts has this number, and lies where it says while it is there
pub record IsOwn (places : Forest ℕ) (n : ℕ) (id : CtxId) : Type 0 where
  pub number : id.number ≡ n
  pub placed : has n places ≡ true → at n places ≡ Some id.slot

-- 1 for what is below, and 0 for the rest
abbrev pub one_below : ℕ → ℕ → ℕ
one_below next n = (if nat_lt n next then 1 else 0)

-- Numbers are given once, and at most 65,536 contexts live; each is sound, and its entries have numbers that were given.
-- The contexts that are there have places, and only they.
-- A name leads to its context or its chunk, and each that may be found is found. The current context is there, as long
-- as any is.
pub record IsSound (kept : Forest Kept) (places : Forest ℕ) (find_context : List ℕ → Option CtxId) (find_chunk : List ℕ → Option ChunkId) (own : Own) (now : CtxId) (next next_entry : ℕ) : Type 0 where
  pub numbers : (n : ℕ) → times n kept ≤ one_below next n
  pub few : size kept ≤ 65536
  pub lies : (n : ℕ) → has n places ≡ true → has n kept ≡ true
  pub there : (n : ℕ) → has n kept ≡ true → has n places ≡ true
  pub each : (n : ℕ) (k : Kept) → at n kept ≡ Some k → IsSoundContext k
  pub given : (n c : ℕ) (k : Kept) → at n kept ≡ Some k → has c k.chunks ≡ true → c < next_entry
  pub named : (word : List ℕ) (id : CtxId) → find_context word ≡ Some id → IsNamed kept places word id
  pub names : (n : ℕ) (k : Kept) → at n kept ≡ Some k → k.protected ≡ false → (id : CtxId) × (find_context k.name ≡ Some id) × (id.number ≡ n)
  pub chunk_named : (word : List ℕ) (id : ChunkId) → find_chunk word ≡ Some id → IsChunk kept places word id
  pub chunk_names : (n c : ℕ) (k : Kept) (e : Entry) (word : List ℕ) → at n kept ≡ Some k → at c k.chunks ≡ Some e → e.name ≡ Some word
      → (id : ChunkId) × (find_chunk word ≡ Some id) × (id.context.number ≡ n) × (id.entry.number ≡ c)
  pub top : IsOwn places 1 own.top
  pub cache : IsOwn places 3 own.cache
  pub portals : IsOwn places 4 own.portals
  pub abort : IsOwn places 5 own.abort
  pub current : (kept ≡ Empty) ⊎ (at now.number places ≡ Some now.slot)
