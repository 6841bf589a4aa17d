use Rattle.alloc_set.proofs.Base.{ap, arith, Books, Changes, Chunk, chunk_at, class_size, Free, inl, inr, is_free, IsShelved, length, link_bytes, Live, map, map-set, overwritten, PutsChunk, refl, region_at, rules, set, Shelf, shelf_at, Some, state_of, subst, sum_by, sym, taken_bytes, values_of, ℕ, ◌+◌, ◌∙◌, ◌≡◌, ◌≤◌}
use Rattle.alloc_set.proofs.Lemmas.{class_size-least, count_is, IsCounted-chunks, IsSettled-flipped, IsShelved-freed, length-link_bytes, put_cases, PutsLive-chunk, PutsPlace-chunk, SameBlocks-chunks, wrote-flipped}
use Rattle.alloc_set.proofs.books.Books.shelve.Goals as goal

pub write-requires : goal.write-requires
write-requires c =
    let placed = c.requires.kept.settled.placed c.args.at (Live c.args.class c.requires.live.0) c.requires.live.1 in
    let has = c.requires.agrees.regions c.args.at.region placed.len placed.owned in
    record { live = rw has.1 refl; end_in_region = rw has.1 (omega (arith, ap length c.link_bytes.ensures ∙ length-link_bytes c.at-shelf.result.first, has.3, placed.last, class_size-least c.args.class)) }

pub returns : goal.returns
returns c =
    let b = c.args.self.now in
    let at = c.args.at in
    let class : ℕ = c.args.class in
    let size : ℕ = c.requires.live.0 in
    let shelf = c.at-shelf.result in
    let is : shelf ≡ shelf_at b.shelves class = c.at-shelf.ensures in
    let new : Shelf = record { first = Some at; count = shelf.count + 1 } in
    let n : Books = record b { chunks = c.put.new.chunks; shelves = c.set.new.self } in
    let kept = c.requires.kept in
    let was : chunk_at (state_of b) at ≡ Some (Live class size) = c.requires.live.1 in
    let now : Chunk = Free class shelf.first in
    let puts : PutsChunk (state_of b) (state_of n) at (Some now) = c.put.ensures.at in
    let sums : (f : Chunk → ℕ) → sum_by f (values_of n.chunks.entries) + f (Live class size) ≡ sum_by f (values_of b.chunks.entries) + f now = λ f. rw was at (c.put.ensures.sums f) in
    let sized : (class ≤ 10) × (size ≤ class_size class) = (kept.settled.placed at (Live class size) was).sized in
    let same = SameBlocks-chunks b n refl in
    let wrote = subst (λ xs. Changes c.args.space.now c.write.new.self at.region (overwritten (region_at c.args.space.now at.region) at.offset (map Some xs))) c.link_bytes.ensures c.write.ensures.changes in
    let done = wrote-flipped (state_of b) (state_of n) b.active.region b.active.size at (Live class size) now kept.settled same refl was puts refl sized.0 tt (λ dist. refl) size (link_bytes shelf.first) refl refl c.args.space.now c.write.new.self c.requires.agrees wrote in
    record {
      kept = record {
        counted = IsCounted-chunks b n refl kept.counted kept.counted.filled (omega (arith, kept.counted.rooms, sums taken_bytes));
        settled = IsSettled-flipped (state_of b) (state_of n) b.active.region b.active.size at (Live class size) now kept.settled same refl was puts refl sized.0 tt (λ dist. refl);
        shelved = subst (IsShelved (state_of n)) (sym c.set.ensures) (subst (λ (s : Shelf). IsShelved (state_of n) (set b.shelves class (record { first = Some at; count = s.count + 1 }))) (sym is)
            (IsShelved-freed (state_of b) (state_of n) b.shelves at (Some now) kept.shelved puts c.put.ensures.unique class (omega (arith, sized.0)) (λ k next free. absurd (cc)) (ap (λ (s : Shelf). Some (Free class s.first)) is) (λ k under. omega (arith, sums (is_free k)))));
      };
      ledger = ap (λ f. record (state_of b).ledger { free = f }) (ap (map (λ (s : Shelf). s.count)) c.set.ensures ∙ map-set (λ (s : Shelf). s.count) b.shelves class new ∙ ap (λ x. set (map (λ (s : Shelf). s.count) b.shelves) class (x + 1)) (ap (λ (s : Shelf). s.count) is ∙ sym (count_is b class kept (omega (arith, sized.0)))));
      live = PutsLive-chunk (state_of b) (state_of n) at (Some now) puts;
      moves = done.0;
      keeps = done.1;
      place = PutsPlace-chunk (state_of b) (state_of n) at (Some now) puts;
      others = λ other differs. elim (put_cases (state_of b) (state_of n) at (Some now) puts other) [ inl here ↦ absurd (differs here.0) | inr there ↦ there.1 ];
      sums = omega (arith, sums taken_bytes);
      rest = refl;
      asked = search rules;
    }
