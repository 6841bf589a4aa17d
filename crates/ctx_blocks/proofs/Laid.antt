-- Lemmas on where blocks and chunks are.
use Rattle.ctx_blocks.proofs.Base.{Addr, ap, arith, Block, block_at, block_bytes, block_word, cases_eq, Chunk, chunk_at, chunk_word, footprint, from_map, from_then, front_of, gap_of, header_bytes, header_of, header_room, inl, inr, IsClear, IsLaid, IsSound, Kind, Layout, length, length-block_bytes, length-header_bytes, List, mark_of, nat_tests, Option, option_map, same_addr_from, Some, start_of, sym, ℕ, ◌+◌, ◌-◌, ◌∙◌, ◌≡◌, ◌≢◌, ◌≤◌, ◌⊎◌}

-- the length of a region of the context
pub region_is : (l : Layout) (number : ℕ) (block : Block) → block_at l number ≡ Some block → (footprint l).region number ≡ Some block.size
region_is l number block owned = ap (option_map (λ (b : Block). b.size)) owned

pub from_region : (l : Layout) (number len : ℕ) → (footprint l).region number ≡ Some len → (block : Block) × (block_at l number ≡ Some block) × (block.size ≡ len)
from_region l number len owned = from_map (λ (b : Block). b.size) (block_at l number) len owned

-- no chunk has the bytes before the header of its block, nor those of that
pub front_of-le : (start : ℕ) (block : Option Block) → front_of start block ≤ start + 40
front_of-le start x1 = grind (arith, nat_tests)

-- the size of a live chunk
pub live_is : (l : Layout) (at : Addr) (chunk : Chunk) → chunk_at l at ≡ Some chunk → (footprint l).live at ≡ Some chunk.size
live_is l at chunk found = ap (option_map (λ (c : Chunk). c.size)) found

pub from_live : (l : Layout) (at : Addr) (size : ℕ) → (footprint l).live at ≡ Some size → (chunk : Chunk) × (chunk_at l at ≡ Some chunk) × (chunk.size ≡ size)
from_live l at size live = from_map (λ (c : Chunk). c.size) (chunk_at l at) size live

-- a kind has headers of 8 bytes, or none
pub gap_cases : (kind : Kind) → (gap_of kind ≡ 0) ⊎ (gap_of kind ≡ 8)
gap_cases x0 = grind (arith, nat_tests)

-- and a chunk has one where it has 8 bytes
word_cases : (kind : Kind) (chunk : Chunk) (dist : ℕ) (bytes : List ℕ) → chunk_word kind chunk dist ≡ Some bytes → (gap_of kind ≡ 8) × (header_bytes (header_of kind chunk dist) ≡ bytes)
word_cases x0 chunk dist bytes e = grind (arith, nat_tests)

word_is : (kind : Kind) (chunk : Chunk) (dist : ℕ) → gap_of kind ≡ 8 → chunk_word kind chunk dist ≡ Some (header_bytes (header_of kind chunk dist))
word_is x0 chunk dist e = grind (arith, nat_tests)

-- where the chunk is whose header is at a place
abbrev pub behind : Addr → Addr
behind at = record { region = at.region; offset = at.offset + 8 }

-- what is marked at a place: the header of a block, or that of a chunk
pub mark_cases : (l : Layout) (at : Addr) (bytes : List ℕ) → mark_of l at ≡ Some bytes
    → ((block : Block) × (at.offset ≡ start_of l at.region) × (block_at l at.region ≡ Some block) × (start_of l at.region + 40 ≤ block.size) × (block_bytes l.context block.size ≡ bytes))
    ⊎ ((chunk : Chunk) × (at.offset ≢ start_of l at.region) × (chunk_at l (behind at) ≡ Some chunk) × (header_room l ≡ 8) × (header_bytes (header_of l.kind chunk (at.offset - start_of l at.region)) ≡ bytes))
unfolding mark_of
mark_cases l at bytes marked = grind (arith, nat_tests, cases_eq at.offset (start_of l at.region), from_then (block_word l.context (start_of l at.region)) (block_at l at.region) bytes, from_then, word_cases l.kind)

-- a mark, from what stands at its place
pub mark_from_block : (l : Layout) (at : Addr) (block : Block) → at.offset ≡ start_of l at.region → block_at l at.region ≡ Some block → start_of l at.region + 40 ≤ block.size → mark_of l at ≡ Some (block_bytes l.context block.size)
unfolding mark_of
mark_from_block l at block first owned fits = grind arith

pub mark_from_chunk : (l : Layout) (at : Addr) (chunk : Chunk) → at.offset ≢ start_of l at.region → chunk_at l (behind at) ≡ Some chunk → header_room l ≡ 8 → mark_of l at ≡ Some (header_bytes (header_of l.kind chunk (at.offset - start_of l at.region)))
unfolding mark_of
mark_from_chunk l at chunk differs found gap = grind (arith, word_is l.kind chunk (at.offset - start_of l at.region) gap)

module _ (l : Layout) (laid : IsLaid l) where
  -- chunks at two addresses have place for a header between them
  pub chunks_clear : (a b : Addr) (first second : Chunk) → chunk_at l a ≡ Some first → chunk_at l b ≡ Some second → a ≢ b → IsClear (header_room l) a first b second
  chunks_clear a b first second at_a at_b differ region = grind (arith, nat_tests, same_addr_from a b region)

  -- a mark is in its block
  pub mark_within : (at : Addr) (bytes : List ℕ) → mark_of l at ≡ Some bytes → (block : Block) × (block_at l at.region ≡ Some block) × (at.offset + 8 + block.room ≤ block.size) × (length bytes ≡ 8)
  mark_within at bytes marked =
      elim (mark_cases l at bytes marked) [
        | inl block ↦
            (block.0, block.2, omega (arith, block.1, block.3, (laid.filled at.region block.0 block.2).within), ap length (sym block.4) ∙ length-block_bytes l.context block.0.size)
        | inr other ↦
            let there = laid.placed (behind at) other.0 other.2 in
            (there.block, there.owned, omega (arith, there.last), ap length (sym other.4) ∙ length-header_bytes (header_of l.kind other.0 (at.offset - start_of l at.region)))
      ]

  -- a chunk is apart from every mark
  pub mark_apart : (a b : Addr) (chunk : Chunk) (bytes : List ℕ) → chunk_at l a ≡ Some chunk → mark_of l b ≡ Some bytes → a.region ≡ b.region → (a.offset + chunk.room ≤ b.offset) ⊎ (b.offset + length bytes ≤ a.offset)
  mark_apart a b chunk bytes found marked region =
      let placed = laid.placed a chunk found in
      let len = (mark_within b bytes marked).3 in
      elim (mark_cases l b bytes marked) [
        | inl block ↦ inr (omega (arith, placed.first, ap (start_of l) region, block.1))
        | inr other ↦ grind (arith, laid.apart a (behind b) chunk other.0 found other.2 region, other.3)
      ]

  -- the footprint is sound
  pub IsSound-laid : IsSound (footprint l)
  IsSound-laid = record {
    live_inside = λ at n live.
        let it = from_live l at n live in
        let placed = laid.placed at it.0 it.1 in
        (placed.block.size, region_is l at.region placed.block placed.owned, omega (arith, placed.last, placed.sized.fits, it.2));
    free_inside = λ at n free. absurd (cc);
    mark_inside = grind (arith, nat_tests, mark_within, region_is);
    live_apart = λ a b m n live_a live_b differ region.
        let first = from_live l a m live_a in
        let second = from_live l b n live_b in
        grind (arith, chunks_clear a b first.0 second.0 first.1 second.1 differ region, (laid.placed a first.0 first.1).sized.fits, (laid.placed b second.0 second.1).sized.fits, first.2, second.2);
    free_apart = λ a b m n live free region. absurd (cc);
    mark_apart = λ a b m bytes live marked region.
        let first = from_live l a m live in
        grind (arith, mark_apart a b first.0 bytes first.1 marked region, (laid.placed a first.0 first.1).sized.fits, first.2);
    live_behind = λ at n live.
        let it = from_live l at n live in
        omega (arith, (laid.placed at it.0 it.1).first, front_of-le (start_of l at.region) (block_at l at.region));
    free_behind = λ at n free. absurd (cc);
    small = λ number len owned.
        let it = from_region l number len owned in
        omega (arith, (laid.filled number it.0 it.1).small, it.2);
  }
