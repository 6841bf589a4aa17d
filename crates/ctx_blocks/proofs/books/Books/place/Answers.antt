use Rattle.ctx_blocks.proofs.Base.{ap, arith, Block, block_at, inr, layout_of, one_value, refl, ◌≡◌}
use Rattle.ctx_blocks.proofs.books.Books.place.Goals as goal

pub overflow_add-taken : goal.overflow_add-taken
overflow_add-taken c = let filled = c.requires.kept.laid.filled c.args.at.region c.owned-block.result c.owned-block.ensures in omega (arith, filled.within, filled.small)

pub hold-requires-clause-holds : goal.hold-requires-clause-holds
hold-requires-clause-holds c =
    let old : Block = c.owned-block.result in
    let filled = c.requires.kept.laid.filled c.args.at.region old c.owned-block.ensures in
    let it : old ≡ c.requires.block.0 = one_value (block_at (layout_of c.args.self.now) c.args.at.region) old c.requires.block.0 c.owned-block.ensures c.requires.block.1 in
    record {
      old = old;
      owned = c.owned-block.ensures;
      number = refl;
      size = refl;
      live = refl;
      less = omega arith;
      filled = record { small = filled.small; even = filled.even; within = omega (arith, filled.within, c.requires.block.3, ap (λ (b : Block). b.freed) it) };
      first = c.requires.first;
      last = omega (arith, c.requires.block.2, ap (λ (b : Block). b.room) it, ap (λ (b : Block). b.size) it);
      whole = c.requires.whole;
      sized = record { some = c.requires.some; fits = c.requires.fits; value = inr c.requires.value };
      clear = c.requires.clear;
    }
