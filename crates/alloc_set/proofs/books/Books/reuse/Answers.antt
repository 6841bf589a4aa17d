use Rattle.alloc_set.proofs.Base.{Addr, ap, arith, Books, Chunk, chunk_at, Free, HasBytes, is_free, IsLinkable, IsShelved, link_bytes, Live, live_size, map, map-set, Option, option_and_then, refl, reused, rules, set, Shelf, shelf_at, Some, state_of, subst, suc, sym, taken_bytes, ℕ, ◌-◌, ◌<◌, ◌∙◌, ◌≡◌}
use Rattle.alloc_set.proofs.Lemmas.{chain_empty, chain_head, count_is, IsCounted-chunks, IsLinkable-chain, IsSettled-flipped, IsShelved-popped, LeavesLive-put, mark_from_link, Moves-flipped, place-put, PutsLive-chunk, SameBlocks-chunks}
use Rattle.alloc_set.proofs.books.Books.reuse.Goals as goal
use Rattle.alloc_set.proofs.books.Books.reuse.Goals.{In-Some}

pub returns-in_default-clause-empty : goal.returns-in_default-clause-empty
returns-in_default-clause-empty c = grind (arith, count_is, chain_empty, c.requires.class, c.requires.kept, c.requires.kept.shelved.chain, c.at-shelf.ensures)

-- the first chunk of a shelf is free, and the space has its link
first : (c : In-Some) → (next : Option Addr) × (chunk_at (state_of c.args.self.now) c.in-Some.at ≡ Some (Free c.args.class next)) × ((shelf_at c.args.self.now.shelves c.args.class).count ≡ suc ((shelf_at c.args.self.now.shelves c.args.class).count - 1))
    × IsLinkable next × HasBytes c.args.space.now c.in-Some.at (link_bytes next)
first c =
    let b = c.args.self.now in
    let kept = c.requires.kept in
    let at = c.in-Some.at in
    let shelf = shelf_at b.shelves c.args.class in
    let it = chain_head (chunk_at (state_of b)) c.args.class shelf.count shelf.first at (kept.shelved.chain c.args.class (omega (arith, c.requires.class))) (ap (λ (s : Shelf). s.first) (sym c.at-shelf.ensures) ∙ c.in-Some.is) in (
      it.0,
      it.2,
      omega (arith, it.3),
      IsLinkable-chain (state_of b) b.active.region b.active.size c.args.class it.1 it.0 kept.settled it.4,
      c.requires.agrees.marks at (link_bytes it.0) (mark_from_link (state_of b) b.active.region b.active.size kept.settled at (Free c.args.class it.0) (link_bytes it.0) it.2 refl),
    )

pub next_at-requires : goal.next_at-requires
next_at-requires c = let it = first (goal.at.next_at-requires c).In-Some in (it.0, it.3, it.4)

pub returns : goal.returns
unfolding reused
returns c =
    let b = c.args.self.now in
    let at = c.in-Some.at in
    let kept = c.requires.kept in
    let class : ℕ = c.args.class in
    let below : class < 11 = omega (arith, c.requires.class) in
    let shelf = c.at-shelf.result in
    let is : shelf ≡ shelf_at b.shelves class = c.at-shelf.ensures in
    let new : Shelf = record { first = c.next_at.result; count = shelf.count - 1 } in
    let n : Books = record b { chunks = c.put.new.chunks; shelves = c.set.new.self } in
    let old : Chunk = Free class c.next_at.result in
    let now : Chunk = Live class c.args.size in
    let it = first (goal.at.returns c).In-Some in
    let was : chunk_at (state_of b) at ≡ Some old = it.1 ∙ ap (λ n. Some (Free class n)) (sym (c.next_at.ensures it.0 it.3 it.4)) in
    let same = SameBlocks-chunks b n refl in
    let none = ap (λ o. option_and_then live_size o) was in
    record {
      none = search rules;
      empty = search rules;
      some = omega (arith, count_is b class kept below, it.2);
      kept = record {
        counted = IsCounted-chunks b n refl kept.counted kept.counted.filled (let sums = rw was at (c.put.ensures.sums taken_bytes) in omega (arith, kept.counted.rooms, sums));
        settled = IsSettled-flipped (state_of b) (state_of n) b.active.region b.active.size at old now kept.settled same refl was c.put.ensures.at refl (c.requires.class, c.requires.size) tt (λ dist. refl);
        shelved = subst (IsShelved (state_of n)) (sym c.set.ensures) (IsShelved-popped (state_of b) (state_of n) b.shelves at (Some now) kept.shelved c.put.ensures.at c.put.ensures.unique class c.next_at.result (shelf.count - 1) below (ap (λ (s : Shelf). s.first) (sym is) ∙ c.in-Some.is) was (omega (arith, it.2, ap (λ (s : Shelf). s.count) is))
            (λ k under. let sums = rw was at (c.put.ensures.sums (is_free k)) in omega (arith, sums)));
      };
      ledger = ap (λ f. record (state_of b).ledger { free = f }) (ap (map (λ (s : Shelf). s.count)) c.set.ensures ∙ map-set (λ (s : Shelf). s.count) b.shelves class new ∙ ap (λ x. set (state_of b).ledger.free class (x - 1)) (ap (λ (s : Shelf). s.count) is ∙ sym (count_is b class kept below)));
      fresh = none;
      live = PutsLive-chunk (state_of b) (state_of n) at (Some now) c.put.ensures.at;
      place = place-put (state_of b) (state_of n) at (Some now) c.put.ensures.at;
      stays = LeavesLive-put (state_of b) (state_of n) at (Some now) c.put.ensures.at none;
      moves = Moves-flipped (state_of b) (state_of n) b.active.region b.active.size at old now kept.settled same refl was c.put.ensures.at refl (c.requires.class, c.requires.size) tt (λ dist. refl) refl c.args.space.now c.requires.agrees;
    }
