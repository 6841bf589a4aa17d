-- Lemmas on a chunk without a link that is put where nothing stood, with its header before it.
use Rattle.alloc_set.proofs.Base.{Addr, Agrees, ap, arith, capacity_of, Changes, Chunk, chunk_at, footprint, header_bytes, header_of, inl, inr, IsPlaced, IsSettled, Keeps, Keeps-written, length, length-header_bytes, link_of, map, Moves, Moves-written, None, option_and_then, option_cases, overwritten, PutsChunk, refl, region_at, same_addr_from, SameBlocks, SetState, Some, Space, start_of, sym, ℕ, ◌+◌, ◌-◌, ◌∙◌, ◌≡◌, ◌≤◌, ◌⊎◌}
use Rattle.alloc_set.proofs.Settled.{mark_apart, live_there, IsSound-settled}
use Rattle.alloc_set.proofs.Altered.{Puts-chunk, region_same, IsSettled-altered, start_same, new_marks, old, new_block, new_header, new_link}

module _ (s t : SetState) (active size : ℕ) (at : Addr) (chunk : Chunk) (settled : IsSettled s active size) (same : SameBlocks s t) (room : t.ledger.room ≤ s.ledger.room) (puts : PutsChunk s t at (Some chunk))
    (unlinked : link_of chunk ≡ None) (placed : IsPlaced t active size at chunk)
    (apart : (other : Addr) (it : Chunk) → chunk_at s other ≡ Some it → other.region ≡ at.region → (other.offset + capacity_of it + 8 ≤ at.offset) ⊎ (at.offset + capacity_of chunk + 8 ≤ other.offset)) where
  pub nothing_there : chunk_at s at ≡ None
  nothing_there =
      elim (option_cases (chunk_at s at)) [
        | inl none ↦ none
        | inr some ↦ absurd (omega (arith, apart at some.0 some.1 refl))
      ]

  pub IsSettled-headed : IsSettled t active size
  IsSettled-headed =
      IsSettled-altered s t (λ _. ⊥) at (Some chunk) active size settled (Puts-chunk s t at (Some chunk) same puts) (region_same s t same active) room (λ number len new has. absurd new)
      placed (λ other there found differs. apart other there found)

  -- the space once the header is written
  pub wrote-headed : (sp tp : Space) → Agrees (footprint s) sp → Changes sp tp at.region (overwritten (region_at sp at.region) (at.offset - 8) (map Some (header_bytes (header_of chunk (at.offset - 8 - start_of s at.region)))))
      → Moves (footprint s) (footprint t) sp tp × Keeps (footprint s) (footprint t) sp tp
  wrote-headed sp tp agrees wrote =
      let place : Addr = record { region = at.region; offset = at.offset - 8 } in
      let word = header_bytes (header_of chunk (at.offset - 8 - start_of s at.region)) in
      let eight = length-header_bytes (header_of chunk (at.offset - 8 - start_of s at.region)) in
      let alters = Puts-chunk s t at (Some chunk) same puts in
      let first : start_of s at.region + 48 ≤ at.offset = omega (arith, placed.first, start_same s t (λ _. ⊥) at (Some chunk) active size settled alters at.region) in
      let fits : at.offset - 8 + length word ≤ placed.len = omega (arith, eight, placed.last, placed.first) in
      let owned = sym (region_same s t same at.region) ∙ placed.owned in (
        Moves-written (footprint s) (footprint t) sp tp place placed.len word agrees owned fits wrote (IsSound-settled t active size IsSettled-headed) same.account same.context same.total (region_same s t same)
            (λ b bytes marked. elim (new_marks s t (λ _. ⊥) at (Some chunk) active size settled alters b bytes marked) [
              | old stays before ↦ inr (
                before,
                λ region. elim (mark_apart s active size settled at b (capacity_of chunk) bytes first (ap (λ o. option_and_then link_of o) nothing_there) (λ other it found differs. apart other it found) before (sym region)) [
                  | inl front ↦ inl (omega (arith, front))
                  | inr rest ↦ elim rest [
                    | inl back ↦ inr (omega (arith, back, eight, first))
                    | inr own ↦ absurd (own.2 nothing_there)
                  ]
                ],
              )
              | new_block len new at_start has is ↦ absurd new
              | new_header it differs here is bytes_are ↦
                  let one : chunk ≡ it = cc in
                  let same_place = same_addr_from b place (ap (λ (x : Addr). x.region) here) (omega (arith, ap (λ (x : Addr). x.offset) here)) in
                  inl (same_place, ap (λ (x : Addr). header_bytes (header_of chunk (x.offset - start_of s x.region))) (sym same_place) ∙ ap (λ x. header_bytes (header_of x (b.offset - start_of s b.region))) one ∙ bytes_are)
              | new_link it here is has ↦ let one : chunk ≡ it = cc in let clash = sym unlinked ∙ ap link_of one ∙ has in absurd (cc)
            ]),
        Keeps-written (footprint s) (footprint t) sp tp place placed.len word agrees owned fits wrote (λ b m n live again region.
            let it = live_there s active size settled b m live in
            elim (apart b it.0 it.1 region) [
              | inl front ↦ inl (omega (arith, front, it.3))
              | inr back ↦ inr (omega (arith, back, eight, first))
            ]),
      )
