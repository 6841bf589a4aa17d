use Rattle.alloc_set.proofs.Base.{arith, Books, Chunk, chunk_at, is_free, Live, refl, Some, state_of, taken_bytes, ◌≡◌}
use Rattle.alloc_set.proofs.Lemmas.{IsCounted-chunks, IsSettled-flipped, IsShelved-taken, Moves-flipped, PutsLive-chunk, PutsPlace-chunk, SameBlocks-chunks}
use Rattle.alloc_set.proofs.books.Books.refit.Goals as goal

pub returns : goal.returns
returns c =
    let b = c.args.self.now in
    let n : Books = record b { chunks = c.put.new.chunks } in
    let at = c.args.at in
    let class = c.args.class in
    let size = c.requires.live.0 in
    let now : Chunk = Live class c.args.size in
    let kept = c.requires.kept in
    let was : chunk_at (state_of b) at ≡ Some (Live class size) = c.requires.live.1 in
    let same = SameBlocks-chunks b n refl in
    let puts = c.put.ensures.at in
    record {
      kept = record {
        counted = IsCounted-chunks b n refl kept.counted kept.counted.filled (let sums = rw was at (c.put.ensures.sums taken_bytes) in omega (arith, kept.counted.rooms, sums));
        settled = IsSettled-flipped (state_of b) (state_of n) b.active.region b.active.size at (Live class size) now kept.settled same refl was puts refl (c.requires.class, c.requires.size) tt (λ dist. refl);
        shelved = IsShelved-taken (state_of b) (state_of n) b.shelves at (Some now) kept.shelved puts c.put.ensures.unique (λ k next free. absurd (cc)) (λ k under. let sums = rw was at (c.put.ensures.sums (is_free k)) in omega (arith, sums));
      };
      ledger = refl;
      place = PutsPlace-chunk (state_of b) (state_of n) at (Some now) puts;
      live = PutsLive-chunk (state_of b) (state_of n) at (Some now) puts;
      moves = Moves-flipped (state_of b) (state_of n) b.active.region b.active.size at (Live class size) now kept.settled same refl was puts refl (c.requires.class, c.requires.size) tt (λ dist. refl) refl;
    }
