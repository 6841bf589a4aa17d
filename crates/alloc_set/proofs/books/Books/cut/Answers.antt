use Rattle.alloc_set.proofs.Base.{ap, arith, Block, Books, Chunk, class_bytes, cut_off, is_free, IsSettled, IsShelved, Live, live_size, option_and_then, Some, state_of, subst, sym, taken_bytes, ◌-◌, ◌∙◌, ◌≡◌}
use Rattle.alloc_set.proofs.Lemmas.{IsCounted-chunks, IsShelved-taken, LeavesLive-put, place-put, PutsLive-chunk}
use Rattle.alloc_set.proofs.books.Books.cut.Goals as goal

pub returns : goal.returns
unfolding cut_off
returns c =
    let b = c.args.self.now in
    let n = c.carve.new.self in
    let s = state_of b in
    let t = state_of n in
    let at = c.carve.result in
    let it : Chunk = Live c.args.class c.args.size in
    let done = c.carve.ensures in
    let kept = c.requires.kept in
    let none = ap (λ o. option_and_then live_size o) done.free in
    let shelves = sym (ap (λ (x : Books). x.shelves) done.rest) in
    let rest : n ≡ record b { active = n.active; chunks = n.chunks; shelves = n.shelves } = done.rest ∙ ap (λ s. record b { active = n.active; chunks = n.chunks; shelves = s }) shelves in
    let room : n.active.room ≡ b.active.room - class_bytes c.args.class = omega (arith, done.room) in
    record {
      kept = record {
        counted = IsCounted-chunks b n rest kept.counted (omega (arith, kept.counted.filled, done.room, ap (λ (x : Block). x.size) done.active, kept.settled.active_room)) (omega (arith, kept.counted.rooms, done.room, done.sums taken_bytes));
        settled = subst (λ (x : Block). IsSettled t x.region x.size) (sym done.active) done.settled;
        shelved = subst (IsShelved t) shelves (IsShelved-taken s t b.shelves at (Some it) kept.shelved done.chunk done.unique (λ k next free. absurd (cc (done.free))) (λ k under. omega (arith, done.sums (is_free k))));
      };
      ledger = ap (λ (x : Books). (state_of x).ledger) done.rest ∙ ap (λ r. record s.ledger { room = r }) room;
      fresh = none;
      live = PutsLive-chunk s t at (Some it) done.chunk;
      stays = LeavesLive-put s t at (Some it) done.chunk none;
      moves = done.moves;
      keeps = done.keeps;
      place = place-put s t at (Some it) done.chunk;
      chunk = done.chunk;
      region = done.region;
      rest = done.rest;
      active = done.active;
      sums = done.sums taken_bytes;
      asked = done.asked;
    }
