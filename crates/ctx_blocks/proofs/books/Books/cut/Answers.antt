use Rattle.ctx_blocks.proofs.Base.{ap, arith, Block, block_at, header_room, inl, inr, layout_of, one_value, refl, ◌%◌, ◌+◌, ◌∙◌, ◌≡◌, ◌≤◌}
use Rattle.ctx_blocks.proofs.Lemmas.{gap_cases, start_whole}
use Rattle.ctx_blocks.proofs.books.Books.cut.Goals as goal

pub overflow_sub-at : goal.overflow_sub-at
overflow_sub-at c = let filled = c.requires.kept.laid.filled c.args.number c.owned-block.result c.owned-block.ensures in omega (arith, filled.within)

pub overflow_add-less-2 : goal.overflow_add-less-2
overflow_add-less-2 c = let filled = c.requires.kept.laid.filled c.args.number c.owned-block.result c.owned-block.ensures in omega (arith, filled.within, filled.small)

pub hold-requires-clause-holds : goal.hold-requires-clause-holds
hold-requires-clause-holds c =
    let l = layout_of c.args.self.now in
    let old : Block = c.owned-block.result in
    let owned = c.owned-block.ensures in
    let filled = c.requires.kept.laid.filled c.args.number old owned in
    let gap = c.gap-gap.ensures in
    let fits : header_room l + c.args.room ≤ old.room = omega (arith, c.requires.block.2, ap (λ (b : Block). b.room) (one_value (block_at l c.args.number) old c.requires.block.0 owned c.requires.block.1)) in
    let start = start_whole l c.args.number in
    let eight : c.gap-gap.result % 8 ≡ 0 = elim (gap_cases l.kind) [
      | inl none ↦ omega (arith, none, gap)
      | inr bytes ↦ omega (arith, bytes, gap)
    ] in
    record {
      old = old;
      owned = owned;
      number = refl;
      size = refl;
      live = refl;
      less = omega arith;
      filled = record {
        small = filled.small;
        even = omega (arith, filled.even, filled.within, fits, c.requires.whole, eight, gap);
        within = omega (arith, filled.within, fits, c.requires.some, c.requires.whole, eight, gap);
      };
      first = omega (arith, filled.within, fits, c.requires.some, gap);
      last = omega (arith, filled.within, fits, gap);
      whole = omega (arith, filled.even, eight);
      sized = record { some = c.requires.some; fits = c.requires.fits; value = c.requires.value };
      clear = λ other chunk found region.
          (let placed = c.requires.kept.laid.placed other chunk found in
          let it : placed.block ≡ old = one_value (block_at l other.region) placed.block old placed.owned (ap (block_at l) region ∙ owned) in
          inl (omega (arith, placed.last, gap, ap (λ (x : Block). x.size) it, ap (λ (x : Block). x.room) it)));
    }
