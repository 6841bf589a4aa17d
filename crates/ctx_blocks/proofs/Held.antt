-- Lemmas on a chunk that is noted in a block.
use Rattle.ctx_blocks.proofs.Base.{Addr, Agrees, ap, arith, Block, block_at, cases_eq, Changes, Chunk, chunk_at, footprint, header_bytes, header_of, header_room, Holds, if◌then◌else◌, inl, inr, IsLaid, IsPlaced, IsWritten, Keeps, Keeps-written, Layout, length, length-header_bytes, List, map, mark_of, Moves, Moves-still, Moves-written, nat_tests, None, one_value, option_cases, overwritten, PutsChunk, refl, region_at, same_addr-cases, same_addr_from, SameContext, Some, Space, start_of, sym, total, ℕ, ◌+◌, ◌-◌, ◌==◌, ◌≡◌, ◌≤◌, ◌⊎◌}
use Rattle.ctx_blocks.proofs.Laid.{mark_cases, mark_within, from_live, region_is, behind, IsSound-laid}
use Rattle.ctx_blocks.proofs.Put.{block_was, chunk_was, regions-put, sizes-put}
use Rattle.ctx_blocks.proofs.Lessened.{start_same, gap_same, placed_again, mark_same}

-- no chunk is where one can be noted
pub place_free : (l : Layout) (at : Addr) (chunk : Chunk) (block : Block) → IsLaid l → Holds l at chunk block → chunk_at l at ≡ None
place_free l at chunk block laid holds = elim (option_cases (chunk_at l at)) [
  | inl none ↦ none
  | inr some ↦ absurd (grind (arith, (laid.placed at some.0 some.1).sized.some, holds.sized.some, holds.clear at some.0 some.1 refl))
]

-- its header has a place in the space
pub IsWritten-held : (l : Layout) (s : Space) (at : Addr) (chunk : Chunk) (block : Block) → Agrees (footprint l) s → Holds l at chunk block → IsWritten l s at chunk
IsWritten-held l s at chunk block agrees holds = grind (arith, nat_tests, region_is l at.region holds.old holds.owned)

module _ (l m : Layout) (at : Addr) (chunk : Chunk) (block : Block) (laid : IsLaid l) (holds : Holds l at chunk block) (same : SameContext l m) (chunks : PutsChunk l m at (Some chunk))
    (blocks : (other : ℕ) → block_at m other ≡ (if at.region == other then Some block else block_at l other)) where
  -- each chunk is in its block
  placed_still : (other : Addr) (c : Chunk) → chunk_at l other ≡ Some c → IsPlaced m other c
  placed_still other c found = grind (arith, nat_tests, cases_eq other.region at.region, one_value (block_at l other.region) holds.old (laid.placed other c found).block, placed_again l m same other c c (laid.placed other c found) block, placed_again l m same other c c (laid.placed other c found) (laid.placed other c found).block)

  placed_new : IsPlaced m at chunk
  placed_new = grind (arith, nat_tests, start_same l m same at.region, gap_same l m same)

  -- the blocks and chunks are laid again
  pub IsLaid-held : IsLaid m
  IsLaid-held = record {
    filled = λ number b owned.
        elim (block_was l m at.region block blocks number b owned) [
          | inl here ↦ rw (here.0, here.1, same.keeper) holds.filled
          | inr there ↦ rw same.keeper (laid.filled number b there.1)
        ];
    placed = grind (arith, nat_tests, chunk_was l m, placed_new, placed_still);
    apart = grind (arith, nat_tests, gap_same l m same, chunk_was l m);
  }

  -- the marks are the old ones and that of the chunk
  marks_now : (b : Addr) (bytes : List ℕ) → mark_of m b ≡ Some bytes
      → ((header_room l ≡ 8) × (b ≡ record { region = at.region; offset = at.offset - 8 }) × (bytes ≡ header_bytes (header_of l.kind chunk (at.offset - 8 - start_of l at.region)))) ⊎ (mark_of l b ≡ Some bytes)
  marks_now b bytes marked = grind (arith, nat_tests, start_same l m same b.region, same_addr-cases (behind b), behind b, mark_cases m b bytes marked, chunk_was l m, gap_same l m same, same_addr_from b, mark_same l m same b bytes (sizes-put l m at.region block blocks holds.old holds.owned holds.size b.region), sizes-put l m at.region block blocks holds.old holds.owned holds.size b.region)

  regions_held : (other : ℕ) → (footprint m).region other ≡ (footprint l).region other
  regions_held = regions-put l m at.region block blocks holds.old holds.owned holds.size

  module _ (totals : total m ≡ total l) (sp : Space) (agrees : Agrees (footprint l) sp) where
    -- of a kind without headers the books alone change
    pub Moves-bare : header_room l ≡ 0 → Moves (footprint l) (footprint m) sp sp
    Moves-bare none =
        Moves-still (footprint l) (footprint m) sp agrees (IsSound-laid m IsLaid-held) same.account same.context totals regions_held
        (λ b bytes marked. elim (marks_now b bytes marked) [
          | inl new ↦ absurd (omega (arith, none, new.0))
          | inr old ↦ agrees.marks b bytes old
        ])

    module _ (gap : header_room l ≡ 8) (tp : Space) (writes : Changes sp tp at.region (overwritten (region_at sp at.region) (at.offset - 8) (map Some (header_bytes (header_of l.kind chunk (at.offset - 8 - start_of l at.region)))))) where
      abbrev place : Addr
      place = record { region = at.region; offset = at.offset - 8 }

      abbrev word : List ℕ
      word = header_bytes (header_of l.kind chunk (at.offset - 8 - start_of l at.region))

      len : length word ≡ 8
      len = length-header_bytes (header_of l.kind chunk (at.offset - 8 - start_of l at.region))

      owned : (footprint l).region at.region ≡ Some holds.old.size
      owned = region_is l at.region holds.old holds.owned

      fits : place.offset + length word ≤ holds.old.size
      fits = omega (arith, len, holds.first, holds.last, holds.size, gap)

      pub Moves-held : Moves (footprint l) (footprint m) sp tp
      Moves-held =
          Moves-written (footprint l) (footprint m) sp tp place holds.old.size word agrees owned fits writes (IsSound-laid m IsLaid-held) same.account same.context totals regions_held
          (λ b bytes marked. elim (marks_now b bytes marked) [
            | inl new ↦ inl (new.1, sym new.2)
            | inr old ↦ inr (
              old,
              λ region.
                  let eight = (mark_within l laid b bytes old).3 in
                  elim (mark_cases l b bytes old) [
                    | inl it ↦ inl (omega (arith, it.1, ap (start_of l) region, holds.first, gap, eight))
                    | inr other ↦ grind (arith, holds.clear (behind b) other.0 other.2 region, holds.first, gap, len, eight)
                  ],
            )
          ])

      -- the chunks are apart from it
      pub Keeps-held : Keeps (footprint l) (footprint m) sp tp
      Keeps-held =
          Keeps-written (footprint l) (footprint m) sp tp place holds.old.size word agrees owned fits writes
          (λ b p n live again region.
          let it = from_live l b p live in
          grind (arith, holds.clear b it.0 it.1 region, (laid.placed b it.0 it.1).sized.fits, it.2, holds.first, gap, len))
