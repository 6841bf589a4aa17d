-- Lemmas on the headers by which live chunks lead to their context.
use Rattle.ctx_blocks.proofs.Base.{nat_tests, Addr, AllHeaded, AllOfKind, ap, arith, Block, block_at, Chunk, chunk_at, false, footprint, gap_of, Generation, header_of, header_room, IsHeaded, IsLaid, IsLeading, IsPackable, IsSized, Kind, Layout, one_value, refl, Slab, Some, space_of, start_of, TakesSpace, true, ℕ, ◌%◌, ◌+◌, ◌-◌, ◌<◌, ◌^◌, ◌∙◌, ◌≡◌, ◌⊎◌}
use Rattle.ctx_blocks.proofs.Laid.{from_live, mark_from_block, mark_from_chunk}

pub start_whole : (l : Layout) (number : ℕ) → start_of l number % 8 ≡ 0
start_whole l number = grind arith

pub packable : (kind : Kind) (gap dist : ℕ) (chunk : Chunk) → IsSized gap chunk → dist < 2 ^ 32 → dist % 8 ≡ 0 → IsPackable (header_of kind chunk dist)
packable kind gap dist chunk sized below whole = record { value = let value = sized.value in grind (arith, value); dist = below; whole = whole }

pub leading : (kind : Kind) (chunk : Chunk) (dist : ℕ) → (kind ≡ Slab) ⊎ (kind ≡ Generation) → (gap_of kind ≡ 8) × IsLeading (header_of kind chunk dist)
leading kind chunk dist x3 = grind (arith, nat_tests)

-- what a header says that its chunk takes
space-shared : (kind : Kind) (chunk : Chunk) (dist size : ℕ) → (kind ≡ Slab) ⊎ (kind ≡ Generation) → chunk.own ≡ false → space_of (header_of kind chunk dist) size ≡ chunk.room + 8
unfolding space_of
space-shared kind chunk dist size x4 shared = grind (arith, nat_tests)

space-own : (kind : Kind) (chunk : Chunk) (dist size : ℕ) → chunk.own ≡ true → space_of (header_of kind chunk dist) size ≡ size - 40
unfolding space_of
space-own kind chunk dist size own = rw own refl

module _ (l : Layout) (laid : IsLaid l) (is : (l.kind ≡ Slab) ⊎ (l.kind ≡ Generation)) (at : Addr) (chunk : Chunk) (there : chunk_at l at ≡ Some chunk) where
  -- a chunk's header leads to its block
  abbrev pub headed_by : IsHeaded (footprint l) at
  headed_by =
      let placed = laid.placed at chunk there in
      let dist : ℕ = at.offset - 8 - start_of l at.region in
      let filled = laid.filled at.region placed.block placed.owned in
      let leads = leading l.kind chunk dist is in
      let place : Addr = record { region = at.region; offset = at.offset - 8 } in
      let back : at.offset - 8 + 8 ≡ at.offset = omega (arith, placed.first, leads.0) in
      record {
        header = header_of l.kind chunk dist;
        size = placed.block.size;
        packable = packable l.kind (header_room l) dist chunk placed.sized (omega (arith, placed.last, filled.small)) (omega (arith, placed.first, leads.0, placed.whole, start_whole l at.region));
        leading = leads.1;
        behind = omega (arith, placed.first, leads.0);
        large = omega (arith, placed.first, leads.0, placed.last);
        word = mark_from_chunk l place chunk (λ e. omega (arith, e, placed.first, leads.0)) (rw back there) leads.0;
        block = mark_from_block l (record { region = at.region; offset = at.offset - 8 - dist }) placed.block (omega (arith, placed.first, leads.0)) placed.owned (omega (arith, placed.first, placed.last));
      }

  small_block : (laid.placed at chunk there).block.size < 2 ^ 32
  small_block = let placed = laid.placed at chunk there in omega (arith, (laid.filled at.region placed.block placed.owned).small)

  -- and says what it takes
  pub takes-shared : chunk.own ≡ false → TakesSpace (footprint l) at (chunk.room + 8)
  takes-shared shared = record {
    headed = headed_by;
    small = small_block;
    is = space-shared l.kind chunk (at.offset - 8 - start_of l at.region) (laid.placed at chunk there).block.size is shared;
  }

  pub takes-own : (block : Block) → chunk.own ≡ true → block_at l at.region ≡ Some block → TakesSpace (footprint l) at (block.size - 40)
  takes-own block own found =
      let placed = laid.placed at chunk there in
      let it : placed.block ≡ block = one_value (block_at l at.region) placed.block block placed.owned found in
      record {
        headed = headed_by;
        small = small_block;
        is = space-own l.kind chunk (at.offset - 8 - start_of l at.region) placed.block.size own ∙ ap (λ (b : Block). b.size - 40) it;
      }

pub AllHeaded-laid : (l : Layout) → IsLaid l → (l.kind ≡ Slab) ⊎ (l.kind ≡ Generation) → AllHeaded (footprint l)
AllHeaded-laid l laid is at n live = let had = from_live l at n live in headed_by l laid is at had.0 had.1

-- by a header of its kind
pub AllOfKind-laid : (l : Layout) → IsLaid l → (l.kind ≡ Slab) ⊎ (l.kind ≡ Generation) → AllOfKind l.kind (footprint l)
AllOfKind-laid l laid is at n live = let had = from_live l at n live in (headed_by l laid is at had.0 had.1, refl)
