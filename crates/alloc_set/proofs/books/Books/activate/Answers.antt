use Rattle.alloc_set.proofs.Base.{arith, refl, state_of, ◌≢◌}
use Rattle.alloc_set.proofs.Lemmas.{alone_kept, other_start}
use Rattle.alloc_set.proofs.books.Books.activate.Goals as goal

pub returns-clause-kept : goal.returns-clause-kept
returns-clause-kept c =
    let b = c.args.self.now in
    let was = c.requires.kept.counted in
    let settled = c.requires.kept.settled in
    let shelved = c.requires.kept.shelved in
    let small = settled.small c.args.region c.args.size c.requires.owned in
    record {
      counted = record {
        sizes = was.sizes;
        next = (omega (arith, was.next.0, was.sizes.0, was.sizes.1, c.min-self.ensures), omega (arith, c.min-self.ensures), omega (arith, was.next.2, was.sizes.4, c.min-self.ensures));
        limit = was.limit;
        filled = omega (arith, small.1);
        keeper = was.keeper;
        total = was.total;
        most = was.most;
        blocks = was.blocks;
        rooms = omega (arith, c.requires.counted, c.from.ensures);
      };
      settled = record {
        active_owned = c.requires.owned;
        active_room = omega (arith, other_start (state_of b) c.args.region c.requires.other, small.1);
        small = settled.small;
        placed = λ at chunk found.
            let it = settled.placed at chunk found in
            let differs : at.region ≢ c.args.region = λ region. let none = c.requires.empty at region in absurd (cc) in
            record { len = it.len; owned = it.owned; first = it.first; last = it.last; whole = it.whole; below = λ region. absurd (differs region); sized = it.sized; alone = alone_kept (state_of b) (state_of b) b.active.region c.args.region at chunk refl refl (λ _. differs) it.alone };
        apart = settled.apart;
      };
      shelved = record { eleven = shelved.eleven; chain = shelved.chain; counted = shelved.counted; unique = shelved.unique };
    }
