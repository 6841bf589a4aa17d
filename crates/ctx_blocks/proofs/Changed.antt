-- Lemmas on layouts in which one block or one chunk is another one, or is there no more.
use Rattle.ctx_blocks.proofs.Base.{Addr, ap, arith, Block, block_at, cases_eq, Chunk, chunk_at, DropsBlock, footprint, HasSize, keeper_alone, Layout, List, nat_tests, None, Option, option_map, PutsBlock, PutsChunk, PutsLive, refl, SameLive, Some, StaysLive, ℕ, ◌∙◌, ◌≡◌, ◌≢◌}

module _ (l m : Layout) (number : ℕ) (block : Block) (puts : PutsBlock l m number block) where
  -- the block that was put is there
  pub put_here : block_at m number ≡ Some block
  put_here = grind (arith, puts.at number)

  -- and every other one stays
  pub put_other : (other : ℕ) → number ≢ other → block_at m other ≡ block_at l other
  put_other other ne = grind (arith, puts.at other, ne)

  -- blocks keep their sizes, where the block that was put has that of the one before
  pub size_put : ((old : Block) → block_at l number ≡ Some old → block.size ≡ old.size) → (k bytes : ℕ) → HasSize l k bytes → HasSize m k bytes
  size_put same k bytes has = grind (arith, nat_tests, cases_eq number k, put_here, put_other k)

module _ (l m : Layout) (number : ℕ) (drops : DropsBlock l m number) where
  -- every block but the one that was given stays
  pub drop_other : (other : ℕ) → number ≢ other → block_at m other ≡ block_at l other
  drop_other other ne = grind (arith, drops.at other, ne)

  pub size_drop : (k bytes : ℕ) → number ≢ k → HasSize l k bytes → HasSize m k bytes
  size_drop k bytes ne has = record { block = has.block; is = drop_other k ne ∙ has.is; size = has.size }

-- a chunk in another region stays
pub chunk_apart : (l m : Layout) (at : Addr) (chunk : Option Chunk) → PutsChunk l m at chunk → (other : Addr) → other.region ≢ at.region → chunk_at m other ≡ chunk_at l other
chunk_apart l m at chunk puts other differs = grind (arith, puts other)

-- the size of a live chunk
abbrev pub size_of : Option Chunk → Option ℕ
size_of chunk = option_map (λ c. c.size) chunk

-- a live chunk is put or taken away
pub live_put : (l m : Layout) (at : Addr) (chunk : Option Chunk) → PutsChunk l m at chunk → PutsLive (footprint l) (footprint m) at (size_of chunk)
live_put l m at chunk puts other = rw (puts other) (grind arith)

-- none was live where there was no chunk
pub fresh_put : (l : Layout) (at : Addr) → chunk_at l at ≡ None → (footprint l).live at ≡ None
fresh_put l at none = ap size_of none

-- the live chunks stay while the chunks do
pub same_live : (l m : Layout) → m.chunks ≡ l.chunks → SameLive (footprint l) (footprint m)
same_live l m same at = rw same refl

pub stays_live : (l m : Layout) → m.chunks ≡ l.chunks → StaysLive (footprint l) (footprint m)
stays_live l m same at size live = same_live l m same at ∙ live

pub puts_same : (l m n : Layout) (at : Addr) (chunk : Option Chunk) → m.chunks ≡ l.chunks → PutsChunk m n at chunk → PutsChunk l n at chunk
puts_same l m n at chunk same puts = rw (← same) puts

-- the keeper alone, by another name and another name of its size
pub alone_as : (blocks : List (ℕ × Block)) (keeper other number size bytes : ℕ) → blocks ≡ keeper_alone keeper number size → other ≡ keeper → size ≡ bytes → blocks ≡ keeper_alone other number bytes
alone_as blocks keeper other number size bytes only same now = rw (same, ← now) only
