use Rattle.alloc_set.proofs.Base.{arith, Books, chunk_at, inl, inr, is_free, IsSettled, None, option_cases, Own, refl, Some, state_of, taken_bytes, ◌∙◌, ◌≡◌}
use Rattle.alloc_set.proofs.Lemmas.{IsCounted-chunks, IsSettled-altered, IsShelved-taken, IsSound-settled, lonely, Moves-altered, old_or_fresh, put_cases, Puts-chunk, PutsLive-chunk, PutsPlace-chunk, SameBlocks-chunks}
use Rattle.alloc_set.proofs.books.Books.unlist.Goals as goal

pub returns : goal.returns
returns c =
    let b = c.args.self.now in
    let n : Books = record b { chunks = c.forget.new.chunks } in
    let s = state_of b in
    let t = state_of n in
    let at = c.args.at in
    let room = c.args.room in
    let kept = c.requires.kept in
    let size = c.requires.own.0 in
    let was : chunk_at s at ≡ Some (Own size room) = c.requires.own.1 in
    let puts = c.forget.ensures.at in
    let alters = Puts-chunk s t at None (SameBlocks-chunks b n refl) puts in
    let bytes = rw was at (c.forget.ensures.sums taken_bytes) in
    let settled : IsSettled t b.active.region b.active.size = IsSettled-altered s t (λ _. ⊥) at None b.active.region b.active.size kept.settled alters refl (omega arith) (λ number len new has. absurd new) tt tt in
    record {
      kept = record {
        counted = IsCounted-chunks b n refl kept.counted kept.counted.filled (omega (arith, kept.counted.rooms, bytes));
        settled = settled;
        shelved = IsShelved-taken s t b.shelves at None kept.shelved puts c.forget.ensures.unique (λ k next free. absurd (cc)) (λ k under. let sums = rw was at (c.forget.ensures.sums (is_free k)) in omega (arith, sums));
      };
      rest = refl;
      -- the chunk had its block for itself
      empty = λ other region. elim (put_cases s t at None puts other) [
        | inl here ↦ here.1
        | inr there ↦ elim (option_cases (chunk_at s other)) [
          | inl none ↦ there.1 ∙ none
          | inr some ↦ absurd (lonely s b.active.region b.active.size kept.settled at other size room some.0 was some.1 there.0 region)
        ]
      ];
      counted = omega (arith, kept.counted.rooms, bytes);
      live = PutsLive-chunk s t at None puts;
      place = PutsPlace-chunk s t at None puts;
      moves = Moves-altered s t (λ _. ⊥) at None b.active.region b.active.size kept.settled alters (IsSound-settled t b.active.region b.active.size settled) refl (λ number. refl) (λ a word new. old_or_fresh s t (λ _. ⊥) at a word new (λ len fresh. absurd fresh));
    }
