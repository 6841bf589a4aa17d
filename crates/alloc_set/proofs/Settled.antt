-- Lemmas on where the blocks and chunks of an AllocSet are.
use Rattle.alloc_set.proofs.Base.{Addr, ap, arith, block_bytes, capacity_of, cases_eq, cases_lt, Chunk, chunk_at, footprint, free_size, from_map, from_then, front_of, header_bytes, header_of, if◌then◌else◌, inl, inr, is_some, IsApart, IsSettled, IsSized, IsSound, IsWithin, length, length-block_bytes, length-header_bytes, link_bytes, link_of, List, live_size, lookup, mark_of, nat_tests, None, one_value, Option, option_and_then, option_cases, option_map, option_or, Own, refl, region_of, same_addr_from, SetState, Some, start_of, sym, ℕ, ◌+◌, ◌-◌, ◌==◌, ◌∙◌, ◌≡◌, ◌≢◌, ◌≤◌, ◌⊎◌}
use Rattle.alloc_set.proofs.ClassSizes.{class_size-least}
use Rattle.alloc_set.proofs.Regions.{noted}

-- a live chunk has no link, isn't free, and is within what it may have
pub live_is : (chunk : Chunk) (n : ℕ) → live_size chunk ≡ Some n → (link_of chunk ≡ None) × (free_size chunk ≡ None) × (IsSized chunk → n ≤ capacity_of chunk)
live_is x0 n live = grind (arith, nat_tests)

pub free_size-is : (chunk : Chunk) (size : ℕ) → free_size chunk ≡ Some size → size ≡ capacity_of chunk
free_size-is x0 size e = grind (arith, nat_tests)

-- a link has 8 bytes
pub length-link_bytes : (next : Option Addr) → length (link_bytes next) ≡ 8
length-link_bytes x0 = grind (arith, nat_tests, length-block_bytes)

-- a chunk with a link is free, and has room for it
pub linked : (chunk : Chunk) (bytes : List ℕ) → link_of chunk ≡ Some bytes → (length bytes ≡ 8) × (8 ≤ capacity_of chunk) × (live_size chunk ≡ None)
linked x0 bytes link = grind (arith, nat_tests, length-link_bytes, class_size-least)

-- the first of two options that has a value
from_or : {X : Type 0} (a b : Option X) (x : X) → option_or a b ≡ Some x → (a ≡ Some x) ⊎ ((a ≡ None) × (b ≡ Some x))
from_or x0 b x is = grind (arith, nat_tests)

-- where a chunk is whose header stands at an address
abbrev pub behind : Addr → Addr
behind at = record { region = at.region; offset = at.offset + 8 }

-- what is marked at a place: the header of a block, that of a chunk, or a free chunk's link
pub data Mark (s : SetState) (at : Addr) (bytes : List ℕ) : Type 0 where
  block : (len : ℕ) → at.offset ≡ start_of s at.region → region_of s at.region ≡ Some len → block_bytes s.context len ≡ bytes → Mark s at bytes
  header : (chunk : Chunk) → at.offset ≢ start_of s at.region → chunk_at s (behind at) ≡ Some chunk → header_bytes (header_of chunk (at.offset - start_of s at.region)) ≡ bytes → Mark s at bytes
  link : (chunk : Chunk) → chunk_at s at ≡ Some chunk → link_of chunk ≡ Some bytes → Mark s at bytes

pub mark_cases : (s : SetState) (at : Addr) (bytes : List ℕ) → mark_of s at ≡ Some bytes → Mark s at bytes
unfolding mark_of
mark_cases s at bytes marked =
    elim (cases_eq at.offset (start_of s at.region)) [
      | inl same ↦
          let found = from_map (block_bytes s.context) (region_of s at.region) bytes (grind (arith, nat_tests)) in
          block found.0 same found.1 found.2
      | inr differs ↦
          let headers : Chunk → List ℕ = λ chunk. header_bytes (header_of chunk (at.offset - start_of s at.region)) in
          elim (from_or (option_map headers (chunk_at s (behind at))) (option_and_then link_of (chunk_at s at)) bytes (grind (arith, nat_tests))) [
            | inl first ↦ let found = from_map headers (chunk_at s (behind at)) bytes first in header found.0 differs found.1 found.2
            | inr second ↦ let found = from_then link_of (chunk_at s at) bytes second.1 in link found.0 found.1 found.2
          ]
    ]

-- each has 8 bytes
pub mark_len : (s : SetState) (at : Addr) (bytes : List ℕ) → Mark s at bytes → length bytes ≡ 8
mark_len s at bytes x3 = grind (arith, nat_tests, length-block_bytes, s.context, length-header_bytes, at.offset, at.region, linked)

-- a mark, from what stands at its place
pub mark_from_block : (s : SetState) (at : Addr) (len : ℕ) → at.offset ≡ start_of s at.region → region_of s at.region ≡ Some len → mark_of s at ≡ Some (block_bytes s.context len)
unfolding mark_of
mark_from_block s at len first owned = rw owned (grind (arith, nat_tests))

pub mark_from_chunk : (s : SetState) (at : Addr) (chunk : Chunk) → at.offset ≢ start_of s at.region → chunk_at s (behind at) ≡ Some chunk → mark_of s at ≡ Some (header_bytes (header_of chunk (at.offset - start_of s at.region)))
unfolding mark_of
mark_from_chunk s at chunk differs found = rw found (grind (arith, nat_tests))

module _ (s : SetState) (active size : ℕ) (settled : IsSettled s active size) where
  -- chunks at two addresses have a header between them
  pub chunks_apart : (a b : Addr) (first second : Chunk) → chunk_at s a ≡ Some first → chunk_at s b ≡ Some second → a ≢ b → a.region ≡ b.region → (a.offset + capacity_of first + 8 ≤ b.offset) ⊎ (b.offset + capacity_of second + 8 ≤ a.offset)
  chunks_apart a b first second at_a at_b differ region = grind (arith, nat_tests, cases_lt, cases_eq, same_addr_from)

  -- a region that isn't the context's has no chunk
  pub none_in : (number : ℕ) → region_of s number ≡ None → (at : Addr) → at.region ≡ number → chunk_at s at ≡ None
  none_in number none at region =
      elim (option_cases (chunk_at s at)) [
        | inl without ↦ without
        | inr some ↦ let clash = sym none ∙ ap (region_of s) (sym region) ∙ (settled.placed at some.0 some.1).owned in absurd (cc)
      ]

  -- a chunk that has its block for itself is the only one there, and the block's size is noted
  pub lonely : (at other : Addr) (n room : ℕ) (it : Chunk) → chunk_at s at ≡ Some (Own n room) → chunk_at s other ≡ Some it → other ≢ at → other.region ≢ at.region
  lonely at other n room it was found differs region =
      let alone = (settled.placed at (Own n room) was).alone in
      let there = settled.placed other it found in
      let len : there.len ≡ room + 48 = one_value (region_of s at.region) there.len (room + 48) (ap (region_of s) (sym region) ∙ there.owned) alone.3 in
      elim (chunks_apart other at it (Own n room) found was differs region) [
        | inl front ↦ omega (arith, front, there.first, alone.2)
        | inr back ↦ omega (arith, back, there.last, alone.2, len)
      ]

  pub noted_own : (at : Addr) (n room : ℕ) → chunk_at s at ≡ Some (Own n room) → lookup (λ k. at.region == k) s.blocks ≡ Some (room + 48)
  noted_own at n room was = let alone = (settled.placed at (Own n room) was).alone in sym (noted s at.region alone.1) ∙ alone.3

  -- a link is marked: no header stands there
  pub mark_from_link : (at : Addr) (chunk : Chunk) (bytes : List ℕ) → chunk_at s at ≡ Some chunk → link_of chunk ≡ Some bytes → mark_of s at ≡ Some bytes
  unfolding mark_of
  mark_from_link at chunk bytes found has =
      let placed = settled.placed at chunk found in
      let none : chunk_at s (behind at) ≡ None = elim (option_cases (chunk_at s (behind at))) [
        | inl none ↦ none
        | inr some ↦ absurd (omega (arith, settled.apart at (behind at) chunk some.0 found some.1 refl (omega arith), (linked chunk bytes has).1))
      ] in
      let differs : at.offset ≢ start_of s at.region = omega (arith, placed.first) in
      rw (none, found) (grind (arith, nat_tests))

  -- what is 8 bytes apart from each other chunk of its region, and has no link itself, is apart from every mark but its header
  pub mark_apart : (a b : Addr) (capacity : ℕ) (bytes : List ℕ) → start_of s a.region + 48 ≤ a.offset
      → option_and_then link_of (chunk_at s a) ≡ None
      → ((other : Addr) (it : Chunk) → chunk_at s other ≡ Some it → other ≢ a → other.region ≡ a.region → (other.offset + capacity_of it + 8 ≤ a.offset) ⊎ (a.offset + capacity + 8 ≤ other.offset))
      → mark_of s b ≡ Some bytes → a.region ≡ b.region
      → (b.offset + length bytes + 8 ≤ a.offset) ⊎ (a.offset + capacity ≤ b.offset) ⊎ ((behind b ≡ a) × (length bytes ≡ 8) × (chunk_at s a ≢ None))
  mark_apart a b capacity bytes first unlinked apart marked region =
      let cases = mark_cases s b bytes marked in
      let eight = mark_len s b bytes cases in
      elim cases [
        | block len at owned is ↦ inl (omega (arith, eight, first, ap (start_of s) region, at))
        | header it differs found is ↦ elim (cases_eq (b.offset + 8) a.offset) [
          | inl same ↦ let here = same_addr_from (behind b) a (sym region) same in inr (inr (here, eight, λ none. let clash = sym none ∙ ap (chunk_at s) (sym here) ∙ found in absurd (cc)))
          | inr other ↦ elim (apart (behind b) it found (λ e. other (ap (λ (x : Addr). x.offset) e)) (sym region)) [
            | inl before ↦ inl (omega (arith, before))
            | inr after ↦ inr (inl (omega (arith, after)))
          ]
        ]
        | link it found is ↦
            let has = linked it bytes is in
            let differ : b ≢ a = λ e. let clash = sym unlinked ∙ ap (λ x. option_and_then link_of (chunk_at s x)) (sym e) ∙ ap (λ o. option_and_then link_of o) found ∙ is in absurd (cc) in
            elim (apart b it found differ (sym region)) [
              | inl before ↦ inl (omega (arith, before, has.1))
              | inr after ↦ inr (inl (omega (arith, after)))
            ]
      ]

  pub mark_within : (at : Addr) (bytes : List ℕ) → mark_of s at ≡ Some bytes → IsWithin (footprint s) at (length bytes)
  mark_within at bytes marked =
      let cases = mark_cases s at bytes marked in
      let eight = mark_len s at bytes cases in
      elim cases [
        | block len first owned is ↦ (len, owned, omega (arith, first, (settled.small at.region len owned).1))
        | header chunk differs found is ↦ let there = settled.placed (behind at) chunk found in (there.len, there.owned, omega (arith, there.last))
        | link chunk found is ↦ let there = settled.placed at chunk found in (there.len, there.owned, omega (arith, there.last, (linked chunk bytes is).1))
      ]

  -- a chunk is behind what is the context's own, and inside its region
  front_before : (at : Addr) (chunk : Chunk) → chunk_at s at ≡ Some chunk → front_of s at.region ≤ at.offset
  front_before at chunk found =
      let placed = settled.placed at chunk found in
      let is : front_of s at.region ≡ start_of s at.region + 40 = ap (λ o. if is_some o then start_of s at.region + 40 else 0) placed.owned in
      omega (arith, is, placed.first)

  within : (at : Addr) (chunk : Chunk) (n : ℕ) → chunk_at s at ≡ Some chunk → n ≤ capacity_of chunk → IsWithin (footprint s) at n
  within at chunk n found fits = let placed = settled.placed at chunk found in (placed.len, placed.owned, omega (arith, placed.last, fits))

  -- a live chunk, and a free one
  pub live_there : (at : Addr) (n : ℕ) → (footprint s).live at ≡ Some n → (chunk : Chunk) × (chunk_at s at ≡ Some chunk) × (live_size chunk ≡ Some n) × (n ≤ capacity_of chunk)
  live_there at n live =
      let it = from_then live_size (chunk_at s at) n live in
      (it.0, it.1, it.2, (live_is it.0 n it.2).2 (settled.placed at it.0 it.1).sized)

  free_there : (at : Addr) (n : ℕ) → (footprint s).free at ≡ Some n → (chunk : Chunk) × (chunk_at s at ≡ Some chunk) × (free_size chunk ≡ Some n) × (n ≤ capacity_of chunk)
  free_there at n free = let it = from_then free_size (chunk_at s at) n free in (it.0, it.1, it.2, omega (arith, free_size-is it.0 n it.2))

  sizes_apart : (a b : Addr) (first second : Chunk) (m n : ℕ) → chunk_at s a ≡ Some first → chunk_at s b ≡ Some second → m ≤ capacity_of first → n ≤ capacity_of second → a ≢ b → IsApart a m b n
  sizes_apart a b first second m n at_a at_b fits_m fits_n differ region = grind (arith, nat_tests, chunks_apart)

  -- the footprint is sound
  pub IsSound-settled : IsSound (footprint s)
  IsSound-settled = record {
    live_inside = λ at n live. let it = live_there at n live in within at it.0 n it.1 it.3;
    free_inside = λ at n free. let it = free_there at n free in within at it.0 n it.1 it.3;
    mark_inside = mark_within;
    live_apart = grind (arith, nat_tests, live_there, sizes_apart);
    free_apart = λ a b m n live free.
        let first = live_there a m live in
        let second = free_there b n free in
        sizes_apart a b first.0 second.0 m n first.1 second.1 first.3 second.3 (λ e.
        let one : Some first.0 ≡ Some second.0 = sym first.1 ∙ ap (chunk_at s) e ∙ second.1 in
        let it : first.0 ≡ second.0 = cc in
        let clash = sym (live_is first.0 m first.2).1 ∙ ap free_size it ∙ second.2 in
        absurd (cc));
    mark_apart = λ a b m bytes live marked region.
        let it = live_there a m live in
        elim (mark_apart a b (capacity_of it.0) bytes (settled.placed a it.0 it.1).first (ap (λ o. option_and_then link_of o) it.1 ∙ (live_is it.0 m it.2).0) (λ other chunk found differs same. chunks_apart other a chunk it.0 found it.1 differs same) marked region) [
          | inl before ↦ inr (omega (arith, before))
          | inr rest ↦ elim rest [
            | inl after ↦ inl (omega (arith, after, it.3))
            | inr own ↦ inr (omega (arith, own.1, ap (λ (x : Addr). x.offset) own.0))
          ]
        ];
    live_behind = λ at n live. let it = live_there at n live in front_before at it.0 it.1;
    free_behind = λ at n free. let it = free_there at n free in front_before at it.0 it.1;
    small = λ number len owned. (settled.small number len owned).0;
  }
