use Rattle.alloc_set.proofs.Base.{Addr, ap, arith, Books, capacity_of, Changes, Chunk, chunk_at, header_bytes, header_of, is_free, IsPlaced, live_size, map, None, option_and_then, overwritten, Own, refl, region_at, rules, Some, start_of, state_of, taken_bytes, ◌+◌, ◌-◌, ◌≡◌, ◌≤◌, ◌⊎◌}
use Rattle.alloc_set.proofs.Lemmas.{IsCounted-chunks, IsSettled-headed, IsShelved-taken, LeavesLive-put, other_start, place-put, PutsLive-chunk, SameBlocks-chunks, wrote-headed}
use Rattle.alloc_set.proofs.books.Books.settle.Goals as goal

pub returns : goal.returns
returns c =
    let b = c.args.self.now in
    let n : Books = record b { chunks = c.put.new.chunks } in
    let s = state_of b in
    let t = state_of n in
    let active = b.active in
    let at : Addr = record { region = c.args.region; offset = 48 } in
    let room = c.args.room in
    let it : Chunk = Own c.args.size room in
    let kept = c.requires.kept in
    let was : chunk_at s at ≡ None = c.requires.empty at refl in
    let none = ap (λ o. option_and_then live_size o) was in
    let same = SameBlocks-chunks b n refl in
    let puts = c.put.ensures.at in
    let start = other_start s at.region c.requires.not_keeper in
    let placed : IsPlaced t active.region active.size at it = record {
      len = room + 48;
      owned = c.requires.owned;
      first = omega (arith, start);
      last = omega arith;
      whole = refl;
      below = λ e. absurd (c.requires.not_active e);
      sized = c.requires.fits;
      alone = (c.requires.not_active, c.requires.not_keeper, refl, c.requires.owned);
    } in
    let apart : (other : Addr) (there : Chunk) → chunk_at s other ≡ Some there → other.region ≡ at.region → (other.offset + capacity_of there + 8 ≤ 48) ⊎ (48 + room + 8 ≤ other.offset) = λ other there found region. let empty = c.requires.empty other region in absurd (cc) in
    let wrote : Changes c.args.space.now c.write.new.self at.region (overwritten (region_at c.args.space.now at.region) 40 (map Some (header_bytes (header_of it (40 - start_of s at.region))))) = rw (start, ← c.bytes.ensures) c.write.ensures.changes in
    let done = wrote-headed s t active.region active.size at it kept.settled same (omega arith) puts refl placed apart c.args.space.now c.write.new.self c.requires.agrees wrote in
    record {
      kept = record {
        counted = IsCounted-chunks b n refl kept.counted kept.counted.filled (let sums = rw was at (c.put.ensures.sums taken_bytes) in omega (arith, c.requires.counted, sums));
        settled = IsSettled-headed s t active.region active.size at it kept.settled same (omega arith) puts refl placed apart;
        shelved = IsShelved-taken s t b.shelves at (Some it) kept.shelved puts c.put.ensures.unique (λ k next free. absurd (cc)) (λ k under. let sums = rw was at (c.put.ensures.sums (is_free k)) in omega (arith, sums));
      };
      ledger = refl;
      fresh = none;
      live = PutsLive-chunk s t at (Some it) puts;
      stays = LeavesLive-put s t at (Some it) puts none;
      moves = done.0;
      keeps = done.1;
      place = place-put s t at (Some it) puts;
      asked = search rules;
    }
