use Rattle.ctx_blocks.proofs.Base.{arith, Block, block_at, Books, Layout, layout_of, one_value, refl, ◌+◌, ◌-◌}
use Rattle.ctx_blocks.proofs.Lemmas.{IsCounted-put, IsKept-put, IsLaid-lessened, Lessens-put, MovesStill-lessened, puts_view, regions-put, rising_put, some_in, total-put}
use Rattle.ctx_blocks.proofs.books.Books.remove.Goals as goal

pub seek-place-requires-clause-block : goal.seek-place-requires-clause-block
seek-place-requires-clause-block c = let placed = c.requires.kept.laid.placed c.args.at c.requires.chunk.0 c.requires.chunk.1 in (placed.block, placed.owned)

pub overflow_sub-less : goal.overflow_sub-less
overflow_sub-less c = some_in (layout_of c.args.self.now) c.requires.kept.counted c.args.at c.requires.chunk.0 c.owned-block.result c.requires.chunk.1 c.owned-block.ensures

pub overflow_add-less : goal.overflow_add-less
overflow_add-less c =
    let filled = c.requires.kept.laid.filled c.args.at.region c.owned-block.result c.owned-block.ensures in
    omega (arith, filled.within, filled.small)

pub returns : goal.returns
returns c =
    let b : Books = c.args.self.now in
    let n : Books = record b { blocks = c.change.new.blocks; lost = c.seek-place.result; chunks = c.remove.new.chunks } in
    let l : Layout = layout_of b in
    let m : Layout = layout_of n in
    let old : Block = c.owned-block.result in
    let owned = c.owned-block.ensures in
    let new : Block = record old { live = old.live - 1; freed = old.freed + 1 } in
    let kept = c.requires.kept in
    let filled = kept.laid.filled c.args.at.region old owned in
    let some = some_in l kept.counted c.args.at c.requires.chunk.0 old c.requires.chunk.1 owned in
    let counts = c.remove.ensures.count c.requires.chunk.0 c.requires.chunk.1 in
    let puts = puts_view b n c.args.at.region kept.apart c.change.ensures.apart b.first_number b.last_number new (rising_put b.first_number b.last_number c.args.at.region l.blocks old new kept.numbered owned refl) c.change.ensures.at in
    let less =
    Lessens-put l m kept.laid (record { kind = refl; account = refl; context = refl; keeper = refl; first_number = refl }) c.args.at.region old new owned refl
    (record { small = filled.small; even = filled.even; within = omega (arith, filled.within, some) }) puts.at
    (λ other chunk found. (grind (arith, c.remove.ensures.at other), λ region. omega arith)) in
    record {
      kept = IsKept-put b n c.args.at.region old new kept less.same refl refl c.change.ensures.blocks puts c.change.ensures.apart owned refl refl c.remove.ensures.unique (IsLaid-lessened l m kept.laid less)
          (IsCounted-put l m c.args.at.region new puts.at kept.counted (grind (arith, counts c.args.at.region, kept.counted c.args.at.region old owned)) (λ other differs. grind (arith, counts other)));
      same = less.same;
      last = refl;
      was = owned;
      chunk = c.remove.ensures.at;
      block = λ x is. rw (one_value (block_at l c.args.at.region) old x owned is) at puts;
      moves = MovesStill-lessened l m kept.laid less (regions-put l m c.args.at.region new puts.at old owned refl) (total-put l m c.args.at.region old new puts.blocks owned refl);
    }
