use Rattle.alloc_set.proofs.Base.{arith, Books, Chunk, chunk_at, is_free, Own, refl, Some, state_of, taken_bytes, ◌≡◌}
use Rattle.alloc_set.proofs.Lemmas.{IsCounted-chunks, IsSettled-flipped, IsShelved-taken, Moves-flipped, PutsLive-chunk, PutsPlace-chunk, SameBlocks-chunks}
use Rattle.alloc_set.proofs.books.Books.resettle.Goals as goal

pub returns : goal.returns
returns c =
    let b = c.args.self.now in
    let n : Books = record b { chunks = c.put.new.chunks } in
    let s = state_of b in
    let t = state_of n in
    let at = c.args.at in
    let room = c.args.room in
    let size = c.requires.live.0 in
    let now : Chunk = Own c.args.size room in
    let kept = c.requires.kept in
    let was : chunk_at s at ≡ Some (Own size room) = c.requires.live.1 in
    let alone = (kept.settled.placed at (Own size room) was).alone in
    let same = SameBlocks-chunks b n refl in
    let puts = c.put.ensures.at in
    record {
      kept = record {
        counted = IsCounted-chunks b n refl kept.counted kept.counted.filled (let sums = rw was at (c.put.ensures.sums taken_bytes) in omega (arith, kept.counted.rooms, sums));
        settled = IsSettled-flipped s t b.active.region b.active.size at (Own size room) now kept.settled same refl was puts refl c.requires.fits alone (λ dist. refl);
        shelved = IsShelved-taken s t b.shelves at (Some now) kept.shelved puts c.put.ensures.unique (λ k next free. absurd (cc)) (λ k under. let sums = rw was at (c.put.ensures.sums (is_free k)) in omega (arith, sums));
      };
      ledger = refl;
      place = PutsPlace-chunk s t at (Some now) puts;
      live = PutsLive-chunk s t at (Some now) puts;
      moves = Moves-flipped s t b.active.region b.active.size at (Own size room) now kept.settled same refl was puts refl c.requires.fits alone (λ dist. refl) refl;
    }
