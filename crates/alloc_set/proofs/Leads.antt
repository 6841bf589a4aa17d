-- Lemmas on the headers by which live chunks lead to their context.
use Rattle.alloc_set.proofs.Base.{Addr, AllocSet, ap, arith, Chunk, chunk_at, chunk_bytes, footprint, Free, header_of, IsAlone, IsHeaded, IsLeading, IsPackable, IsSettled, IsSized, Live, live_place, lookup, nat_tests, one_value, Own, region_of, same_addr, SetPlace, SetState, Some, space_of, start_of, TakesSpace, ℕ, ◌%◌, ◌+◌, ◌-◌, ◌<◌, ◌^◌, ◌∙◌, ◌≡◌}
use Rattle.alloc_set.proofs.Settled.{mark_from_block, mark_from_chunk}

-- a chunk's header can be packed, and leads to a context
pub leads : (chunk : Chunk) (dist : ℕ) → IsSized chunk → dist < 2 ^ 32 → dist % 8 ≡ 0 → IsPackable (header_of chunk dist) × IsLeading (header_of chunk dist)
leads (Live class size) dist sized below whole = (record { value = omega (arith, sized.0); dist = below; whole = whole }, sized.0)
leads (Free class next) dist sized below whole = (record { value = omega (arith, sized); dist = below; whole = whole }, sized)
leads (Own size room) dist sized below whole = (record { value = omega arith; dist = below; whole = whole }, omega arith)

pub header_is : (chunk : Chunk) (dist : ℕ) → ((header_of chunk dist).dist ≡ dist) × ((header_of chunk dist).kind ≡ AllocSet)
header_is x0 dist = grind (arith, nat_tests)

pub start_whole : (s : SetState) (number : ℕ) → start_of s number % 8 ≡ 0
start_whole s number = grind (arith, nat_tests)

-- what a header says that its chunk takes, where an own block has the room that its chunk may have
takes : (s : SetState) (active dist len : ℕ) (at : Addr) (chunk : Chunk) (place : SetPlace) → IsAlone s active at chunk → region_of s at.region ≡ Some len → live_place chunk ≡ Some place → space_of (header_of chunk dist) len ≡ chunk_bytes s.ledger place
unfolding space_of
takes s active dist len at x5 place alone owned is = grind (arith, nat_tests, s.ledger, one_value)

module _ (s : SetState) (active size : ℕ) (settled : IsSettled s active size) (at : Addr) (chunk : Chunk) (there : chunk_at s at ≡ Some chunk) where
  -- a chunk's header leads to its block
  abbrev pub headed_by : IsHeaded (footprint s) at
  headed_by =
      let placed = settled.placed at chunk there in
      let start = start_of s at.region in
      let dist : ℕ = at.offset - 8 - start in
      let fits = leads chunk dist placed.sized (omega (arith, placed.first, placed.last, (settled.small at.region placed.len placed.owned).0)) (omega (arith, placed.first, placed.whole, start_whole s at.region)) in
      let header = header_of chunk dist in
      let is_dist = (header_is chunk dist).0 in
      let place : Addr = record { region = at.region; offset = at.offset - 8 } in
      let back : at.offset - 8 + 8 ≡ at.offset = omega (arith, placed.first) in
      let found = ap (λ o. lookup (same_addr (record { region = at.region; offset = o })) s.chunks) back ∙ there in
      record {
        header = header;
        size = placed.len;
        packable = fits.0;
        leading = fits.1;
        behind = omega (arith, is_dist, placed.first);
        large = omega (arith, placed.first, placed.last);
        word = mark_from_chunk s place chunk (λ e. omega (arith, e, placed.first)) found;
        block = mark_from_block s (record { region = at.region; offset = at.offset - 8 - header.dist }) placed.len (omega (arith, is_dist, placed.first)) placed.owned;
      }

  -- and says what it takes
  pub takes_by : (place : SetPlace) → live_place chunk ≡ Some place → TakesSpace (footprint s) at (chunk_bytes s.ledger place)
  takes_by place is =
      let placed = settled.placed at chunk there in
      record {
        headed = headed_by;
        small = omega (arith, (settled.small at.region placed.len placed.owned).0);
        is = takes s active (at.offset - 8 - start_of s at.region) placed.len at chunk place placed.alone placed.owned is;
      }
