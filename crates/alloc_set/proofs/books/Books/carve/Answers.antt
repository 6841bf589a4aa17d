use Rattle.alloc_set.proofs.Base.{Addr, AllocSet as SetKind, arith, Books, capacity_of, Changes, Chunk, chunk_at, false, header_bytes, header_of, inl, IsPlaced, Live, map, overwritten, refl, region_at, rules, Some, start_of, state_of, ◌+◌, ◌-◌, ◌≡◌, ◌≤◌, ◌⊎◌}
use Rattle.alloc_set.proofs.Lemmas.{IsSettled-headed, nothing_there, SameBlocks-chunks, wrote-headed}
use Rattle.alloc_set.proofs.books.Books.carve.Goals as goal

pub returns : goal.returns
returns c =
    let b = c.args.self.now in
    let active = b.active in
    let n : Books = record b { chunks = c.put.new.chunks; active = record active { room = active.room - (c.class_size.result + 8) } } in
    let s = state_of b in
    let t = state_of n in
    let at : Addr = record { region = active.region; offset = active.size - active.room + 8 } in
    let it : Chunk = Live c.args.class c.args.size in
    let settled = c.requires.settled in
    let same = SameBlocks-chunks b n refl in
    let puts = c.put.ensures.at in
    let room : n.active.room ≤ active.room = omega arith in
    let placed : IsPlaced t active.region active.size at it = record {
      len = active.size;
      owned = settled.active_owned;
      first = omega (arith, settled.active_room);
      last = omega (arith, c.requires.room, settled.active_room);
      whole = omega (arith, c.requires.filled);
      below = λ _. omega (arith, c.requires.room, settled.active_room, c.class_size.ensures.value);
      sized = (c.requires.class, c.requires.size);
      alone = tt;
    } in
    -- every chunk of the block ends before its room
    let apart : (other : Addr) (there : Chunk) → chunk_at s other ≡ Some there → other.region ≡ at.region → (other.offset + capacity_of there + 8 ≤ at.offset) ⊎ (at.offset + capacity_of it + 8 ≤ other.offset) =
    λ other there found region. inl (omega (arith, (settled.placed other there found).below region)) in
    let none = nothing_there s t active.region active.size at it settled same room puts refl placed apart in
    let front : at.offset - 8 ≡ active.size - active.room = omega arith in
    let header : record { kind = SetKind; own = false; value = c.from.result; dist = active.size - active.room - c.start.result } ≡ header_of it (at.offset - 8 - start_of s active.region) = rw (c.from.ensures, c.start.ensures, front) refl in
    let wrote : Changes c.args.space.now c.write.new.self active.region (overwritten (region_at c.args.space.now active.region) (at.offset - 8) (map Some (header_bytes (header_of it (at.offset - 8 - start_of s active.region))))) =
    rw (← header, ← c.bytes.ensures, front) c.write.ensures.changes in
    let done = wrote-headed s t active.region active.size at it settled same room puts refl placed apart c.args.space.now c.write.new.self c.requires.agrees wrote in
    record {
      free = none;
      chunk = puts;
      region = refl;
      room = omega (arith, c.requires.room, c.class_size.ensures.value);
      settled = IsSettled-headed s t active.region active.size at it settled same room puts refl placed apart;
      rest = refl;
      active = refl;
      sums = λ f. let sums = rw none at (c.put.ensures.sums f) in omega (arith, sums);
      unique = c.put.ensures.unique;
      moves = done.0;
      keeps = done.1;
      asked = search rules;
    }
