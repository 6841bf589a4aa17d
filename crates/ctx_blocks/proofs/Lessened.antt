-- Lemmas on steps after which a context has no more chunks and blocks than before; so it is where a block becomes another
-- one of its size, while chunks stay or are forgotten, and where a chunk has another size.
use Rattle.ctx_blocks.proofs.Base.{Addr, ap, arith, Block, block_at, Chunk, chunk_at, footprint, gap_of, header_room, if◌then◌else◌, inl, inr, IsFilled, IsLaid, IsPlaced, Layout, List, mark_of, Moves-still, MovesStill, nat_tests, one_value, PutsChunk, refl, SameContext, Some, start_of, sym, total, whole_of, ℕ, ◌-◌, ◌==◌, ◌≡◌, ◌≤◌}
use Rattle.ctx_blocks.proofs.Put.{block_was, chunk_was}
use Rattle.ctx_blocks.proofs.Headed.{start_whole}
use Rattle.ctx_blocks.proofs.Laid.{mark_cases, mark_from_block, mark_from_chunk, behind, IsSound-laid}

-- each chunk and each block was there, with the same bytes; a block in which chunks are has no more room
pub record Lessens (l m : Layout) : Type 0 where
  pub same : SameContext l m
  pub chunk : (at : Addr) (c : Chunk) → chunk_at m at ≡ Some c → (w : Chunk) × (chunk_at l at ≡ Some w) × (w.room ≡ c.room) × (w.own ≡ c.own) × (c.size ≤ c.room)
  pub block : (number : ℕ) (b : Block) → block_at m number ≡ Some b → (w : Block) × (block_at l number ≡ Some w) × (w.size ≡ b.size) × IsFilled (whole_of l number b.size) b
  pub under : (at : Addr) (c : Chunk) → chunk_at m at ≡ Some c → (w : Block) → block_at l at.region ≡ Some w → (b : Block) × (block_at m at.region ≡ Some b) × (b.size ≡ w.size) × (b.room ≤ w.room)

module _ (l m : Layout) (same : SameContext l m) where
  -- the start of a block and the bytes of a header stay
  pub start_same : (number : ℕ) → start_of m number ≡ start_of l number
  start_same number = ap (λ k. if k == number then 200 else 0) same.keeper

  pub gap_same : header_room m ≡ header_room l
  gap_same = ap gap_of same.kind

  -- a chunk is in its block, where that has its bytes and no more room than before
  pub placed_again : (at : Addr) (w c : Chunk) (was : IsPlaced l at w) (b : Block) → block_at m at.region ≡ Some b → b.size ≡ was.block.size → b.room ≤ was.block.room → w.room ≡ c.room → w.own ≡ c.own → c.size ≤ c.room → IsPlaced m at c
  placed_again at w c was b owned size less room own fits = grind (arith, nat_tests, start_same at.region, gap_same)

  -- a mark was one, where its block was there with its size, or its chunk with its room
  pub mark_same : (at : Addr) (bytes : List ℕ)
      → ((b : Block) → block_at m at.region ≡ Some b → (w : Block) × (block_at l at.region ≡ Some w) × (w.size ≡ b.size))
      → ((c : Chunk) → chunk_at m (behind at) ≡ Some c → (w : Chunk) × (chunk_at l (behind at) ≡ Some w) × (w.room ≡ c.room) × (w.own ≡ c.own))
      → mark_of m at ≡ Some bytes → mark_of l at ≡ Some bytes
  mark_same at bytes blocks chunks marked = grind (arith, nat_tests, start_same at.region, mark_cases m, mark_from_block l, mark_from_chunk l, gap_same)

module _ (l m : Layout) (laid : IsLaid l) (less : Lessens l m) where
  pub IsLaid-lessened : IsLaid m
  IsLaid-lessened = record {
    filled = λ number b owned. rw less.same.keeper ((less.block number b owned).3);
    placed = λ at c found.
        let it = less.chunk at c found in
        let was = laid.placed at it.0 it.1 in
        let now = less.under at c found was.block was.owned in
        placed_again l m less.same at it.0 c was now.0 now.1 now.2 now.3 it.2 it.3 it.4;
    apart = grind (arith, nat_tests, gap_same l m less.same);
  }

  -- each mark was one
  pub mark-lessened : (at : Addr) (bytes : List ℕ) → mark_of m at ≡ Some bytes → mark_of l at ≡ Some bytes
  mark-lessened at bytes =
      mark_same l m less.same at bytes (λ b has. let it = less.block at.region b has in (it.0, it.1, it.2)) (λ c found. let it = less.chunk (behind at) c found in (it.0, it.1, it.2, it.3))

  -- the books alone change
  pub MovesStill-lessened : ((number : ℕ) → (footprint m).region number ≡ (footprint l).region number) → total m ≡ total l → MovesStill l m
  MovesStill-lessened regions totals s agrees = grind (arith, nat_tests, Moves-still (footprint l) (footprint m) s agrees (IsSound-laid m IsLaid-lessened) less.same.account less.same.context totals regions, IsSound-laid m IsLaid-lessened, IsLaid-lessened, mark-lessened)

-- the whole room of a block without chunks
pub IsFilled-whole : (l : Layout) (number k room : ℕ) (old : Block) → IsFilled (whole_of l number old.size) old → room ≡ whole_of l number old.size → IsFilled (whole_of l number old.size) (record { number = k; size = old.size; room = room; live = 0; freed = 0 })
IsFilled-whole l number k room old filled is = grind (arith, nat_tests, start_whole l number)

-- a block becomes another one: that has no more room where a chunk of it is left
pub Lessens-put : (l m : Layout) → IsLaid l → SameContext l m → (number : ℕ) (old new : Block) → block_at l number ≡ Some old → new.size ≡ old.size → IsFilled (whole_of l number new.size) new
    → ((other : ℕ) → block_at m other ≡ (if number == other then Some new else block_at l other))
    → ((at : Addr) (c : Chunk) → chunk_at m at ≡ Some c → (chunk_at l at ≡ Some c) × (at.region ≡ number → new.room ≤ old.room))
    → Lessens l m
Lessens-put l m laid same number old new owned size filled blocks chunks = record {
  same = same;
  chunk = λ at c found. let had = (chunks at c found).0 in (c, had, refl, refl, (laid.placed at c had).sized.fits);
  block = λ other b has.
      elim (block_was l m number new blocks other b has) [
        | inl here ↦ rw (here.0, here.1) (old, owned, sym size, filled)
        | inr there ↦ (b, there.1, refl, laid.filled other b there.1)
      ];
  under = grind (arith, nat_tests, one_value);
}

-- the size of a chunk becomes another one
pub Lessens-sized : (l m : Layout) → IsLaid l → SameContext l m → m.blocks ≡ l.blocks → (at : Addr) (old new : Chunk) → chunk_at l at ≡ Some old → old.room ≡ new.room → old.own ≡ new.own → new.size ≤ new.room → PutsChunk l m at (Some new) → Lessens l m
Lessens-sized l m laid same blocks at old new was room own fits chunks = record {
  same = same;
  chunk = λ other c found. elim (chunk_was l m at new chunks other c found) [
    | inl here ↦ rw (here.0, here.1) (old, was, room, own, fits)
    | inr there ↦ (c, there.1, refl, refl, (laid.placed other c there.1).sized.fits)
  ];
  block = λ number b has. let had = rw blocks at has in (b, had, refl, laid.filled number b had);
  under = λ other c found w is. (w, rw blocks is, refl, omega arith);
}
