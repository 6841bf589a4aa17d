-- Lemmas on a chunk that becomes free or live where it is, or gets another size in the room that it has.
use Rattle.alloc_set.proofs.Base.{Addr, Agrees, ap, arith, capacity_of, Changes, Chunk, chunk_at, footprint, header_of, inl, inr, IsAlone, IsPlaced, IsSettled, IsSized, Keeps, Keeps-written, length, link_of, List, live_size, map, mark_of, Moves, Moves-written, nat_tests, None, option_and_then, overwritten, PutsChunk, refl, region_at, SameBlocks, SetState, Some, Space, start_of, sym, ℕ, ◌+◌, ◌-◌, ◌∙◌, ◌≡◌, ◌≢◌, ◌≤◌, ◌⊎◌}
use Rattle.alloc_set.proofs.Settled.{chunks_apart, linked, live_is, live_there, mark_apart, mark_from_chunk, IsSound-settled}
use Rattle.alloc_set.proofs.Altered.{Puts-chunk, NewMark, put_cases, region_same, IsSettled-altered, Moves-altered, new_marks}

module _ (s t : SetState) (active size : ℕ) (at : Addr) (before now : Chunk) (settled : IsSettled s active size) (same : SameBlocks s t) (room : t.ledger.room ≡ s.ledger.room) (was : chunk_at s at ≡ Some before) (puts : PutsChunk s t at (Some now))
    (capacity_same : capacity_of now ≡ capacity_of before) (sized : IsSized now) (alone : IsAlone t active at now) (heads : (dist : ℕ) → header_of now dist ≡ header_of before dist) where
  placed : IsPlaced t active size at now
  placed =
      let there = settled.placed at before was in
      let start : start_of t at.region ≡ start_of s at.region = rw same.keeper refl in
      record {
        len = there.len;
        owned = region_same s t same at.region ∙ there.owned;
        first = omega (arith, there.first, start);
        last = omega (arith, there.last, capacity_same);
        whole = there.whole;
        below = λ region. omega (arith, there.below region, capacity_same, room);
        sized = sized;
        alone = alone;
      }

  -- what stands in front of the chunk or behind it
  apart : (other : Addr) (it : Chunk) → chunk_at s other ≡ Some it → other ≢ at → other.region ≡ at.region → (other.offset + capacity_of it + 8 ≤ at.offset) ⊎ (at.offset + capacity_of before + 8 ≤ other.offset)
  apart other it found differs region = chunks_apart s active size settled other at it before found was differs region

  pub IsSettled-flipped : IsSettled t active size
  IsSettled-flipped =
      IsSettled-altered s t (λ _. ⊥) at (Some now) active size settled (Puts-chunk s t at (Some now) same puts) (region_same s t same active) (omega (arith, room)) (λ number len new has. absurd new)
      placed (λ other there found differs region. rw capacity_same (apart other there found differs region))

  -- the header stays, and a new mark is the chunk's link
  pub marks_now : (b : Addr) (bytes : List ℕ) → NewMark s t (λ _. ⊥) at (Some now) b bytes → (mark_of s b ≡ Some bytes) ⊎ ((at ≡ b) × (link_of now ≡ Some bytes))
  marks_now b bytes x2 = grind (arith, nat_tests, mark_from_chunk)

  -- a chunk that is live now has no link, and the space stays
  pub Moves-flipped : link_of now ≡ None → (sp : Space) → Agrees (footprint s) sp → Moves (footprint s) (footprint t) sp sp
  Moves-flipped unlinked =
      Moves-altered s t (λ _. ⊥) at (Some now) active size settled (Puts-chunk s t at (Some now) same puts) (IsSound-settled t active size IsSettled-flipped) same.total (region_same s t same) (λ b bytes new. elim (marks_now b bytes new) [
        | inl mark ↦ mark
        | inr link ↦ let clash = sym unlinked ∙ link.1 in absurd (cc)
      ])

  -- the link of a chunk that is free now is written over the first bytes of the live one
  pub wrote-flipped : (n : ℕ) (word : List ℕ) → live_size before ≡ Some n → link_of now ≡ Some word → (sp tp : Space) → Agrees (footprint s) sp → Changes sp tp at.region (overwritten (region_at sp at.region) at.offset (map Some word))
      → Moves (footprint s) (footprint t) sp tp × Keeps (footprint s) (footprint t) sp tp
  wrote-flipped n word live link sp tp agrees wrote =
      let there = settled.placed at before was in
      let free = linked now word link in
      let fits : at.offset + length word ≤ there.len = omega (arith, free.0, free.1, capacity_same, there.last) in (
        Moves-written (footprint s) (footprint t) sp tp at there.len word agrees there.owned fits wrote (IsSound-settled t active size IsSettled-flipped) same.account same.context same.total (region_same s t same)
            (λ b bytes marked. elim (marks_now b bytes (new_marks s t (λ _. ⊥) at (Some now) active size settled (Puts-chunk s t at (Some now) same puts) b bytes marked)) [
              | inl mark ↦ inr (
                mark,
                λ region. elim (mark_apart s active size settled at b (capacity_of before) bytes there.first (ap (λ o. option_and_then link_of o) was ∙ (live_is before n live).0) apart mark (sym region)) [
                  | inl front ↦ inl (omega (arith, front))
                  | inr rest ↦ elim rest [
                    | inl back ↦ inr (omega (arith, back, free.0, free.1, capacity_same))
                    | inr own ↦ inl (omega (arith, own.1, ap (λ (x : Addr). x.offset) own.0))
                  ]
                ],
              )
              | inr new ↦ let one : word ≡ bytes = cc in inl (sym new.0, one)
            ]),
        Keeps-written (footprint s) (footprint t) sp tp at there.len word agrees there.owned fits wrote (λ b p q living again region.
            let it = live_there s active size settled b p living in
            let differs : b ≢ at = λ e. elim (put_cases s t at (Some now) puts b) [
              | inl here ↦ let clash : live_size now ≡ Some q = sym (ap (λ o. option_and_then live_size o) here.1) ∙ again in let none = free.2 in absurd (cc)
              | inr there ↦ there.0 e
            ] in
            elim (apart b it.0 it.1 differs region) [
              | inl front ↦ inl (omega (arith, front, it.3))
              | inr back ↦ inr (omega (arith, back, free.0, free.1, capacity_same))
            ]),
      )
