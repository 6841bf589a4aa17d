-- Lemmas on one block or one chunk that is put: what stands there then, and the counts of the blocks.
use Rattle.ctx_blocks.proofs.Base.{Addr, arith, Block, block_at, cases_eq, Chunk, chunk_at, count_in, footprint, if◌then◌else◌, IsCounted, Layout, nat_tests, one_value, Option, put_at-cases, PutsChunk, Some, ℕ, ◌==◌, ◌≡◌, ◌≢◌, ◌⊎◌}

-- a chunk is where it was put
pub chunk_here : (l m : Layout) (at : Addr) (new : Option Chunk) → PutsChunk l m at new → chunk_at m at ≡ new
chunk_here l m at new puts = grind (arith, puts at)

-- a chunk that is there is the one that was put, or was there
pub chunk_was : (l m : Layout) (at : Addr) (new : Chunk) → PutsChunk l m at (Some new) → (other : Addr) (c : Chunk) → chunk_at m other ≡ Some c → ((other ≡ at) × (c ≡ new)) ⊎ ((other ≢ at) × (chunk_at l other ≡ Some c))
chunk_was l m at new puts other c found = grind (arith, nat_tests, put_at-cases (chunk_at l) (chunk_at m), one_value (chunk_at m other) c new found)

module _ (l m : Layout) (number : ℕ) (new : Block) (blocks : (other : ℕ) → block_at m other ≡ (if number == other then Some new else block_at l other)) where
  -- and so is a block
  pub block_was : (other : ℕ) (b : Block) → block_at m other ≡ Some b → ((other ≡ number) × (b ≡ new)) ⊎ ((other ≢ number) × (block_at l other ≡ Some b))
  block_was other b has = grind (arith, nat_tests, cases_eq other number)

  -- each block counts its chunks, where that one does
  pub IsCounted-put : IsCounted l → new.live ≡ count_in m number → ((other : ℕ) → other ≢ number → count_in m other ≡ count_in l other) → IsCounted m
  IsCounted-put counted live counts other b has = grind (arith, nat_tests, block_was other b has)

  -- the regions stay, where the block that was put has the size of the one before
  pub regions-put : (old : Block) → block_at l number ≡ Some old → new.size ≡ old.size → (other : ℕ) → (footprint m).region other ≡ (footprint l).region other
  regions-put old owned size other = grind (arith, blocks other)

  -- and so do the sizes of the blocks
  pub sizes-put : (old : Block) → block_at l number ≡ Some old → new.size ≡ old.size → (other : ℕ) (b : Block) → block_at m other ≡ Some b → (w : Block) × (block_at l other ≡ Some w) × (w.size ≡ b.size)
  sizes-put old owned size other b has = grind (arith, nat_tests, block_was other b has)
