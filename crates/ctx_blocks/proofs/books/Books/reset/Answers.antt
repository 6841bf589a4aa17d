use Rattle.ctx_blocks.proofs.Base.{[], ap, arith, Block, block_at, Books, footprint, in_order, Layout, layout_of, Moves-more, nat_tests, one_value, refl, rules, Some, sym, with_block, ◌∙◌, ◌∷◌, ◌≡◌}
use Rattle.ctx_blocks.proofs.Lemmas.{block_view, first_only, IsFilled-whole, IsKept-new, keeper_is, keeper_start, Lessens-put, MovesStill-lessened, one_view, regions-put, total_one}
use Rattle.ctx_blocks.proofs.books.Books.reset.Goals as goal
use Rattle.ctx_blocks.proofs.books.Books.reset.Goals.{After-shrink}

-- the keeper is the one block that is left
left : (c : After-shrink) → (b : Block) × (c.shrink.new.self.blocks.entries ≡ (c.shrink.new.self.keeper, b) ∷ []) × (block_at (layout_of c.args.self.now) c.args.self.now.keeper ≡ Some b)
left c = grind (arith, nat_tests, first_only c.args.self.now.keeper c.args.self.now.first_number c.args.self.now.blocks.entries c.requires.kept.first, block_view c.args.self.now c.requires.kept.apart c.args.self.now.keeper, c.requires.kept.first, c.shrink.ensures.rest, c.shrink.ensures.blocks, c.requires.kept.apart)

pub seek-place-requires-clause-block : goal.seek-place-requires-clause-block
seek-place-requires-clause-block c = grind (arith, nat_tests, left (goal.at.seek-place-requires-clause-block c).After-shrink, keeper_is (layout_of c.shrink.new.self) (left (goal.at.seek-place-requires-clause-block c).After-shrink).0 (ap in_order (left (goal.at.seek-place-requires-clause-block c).After-shrink).1) c.shrink.ensures.chunks, c.shrink.ensures.chunks)

pub returns : goal.returns
returns c =
    let b : Books = c.args.self.now in
    let p : Books = c.shrink.new.self in
    let n : Books = record p { blocks = c.change.new.blocks; last_number = p.first_number } in
    let s : Layout = layout_of p in
    let m : Layout = layout_of n in
    let old = c.owned-size.result in
    let owned = c.owned-size.ensures in
    let new : Block = record { number = p.first_number; size = old.size; room = c.whole.result; live = 0; freed = 0 } in
    let l = left (goal.at.returns c).After-shrink in
    let was = one_value (block_at s s.keeper) old l.0 owned (keeper_is s l.0 (ap in_order l.1) c.shrink.ensures.chunks) in
    let one : n.blocks.entries ≡ (n.keeper, new) ∷ [] = c.change.ensures.blocks ∙ ap (λ es. with_block es p.keeper new) l.1 ∙ grind arith in
    let filled = IsFilled-whole s s.keeper s.first_number c.whole.result old (c.shrink.ensures.laid.filled s.keeper old owned) c.whole.ensures in
    let puts = one_view p n s.keeper c.shrink.ensures.apart c.change.ensures.apart (Some new) c.change.ensures.at in
    let bytes : p.total ≡ old.size = c.shrink.ensures.total ∙ total_one s l.0 (ap in_order l.1) c.shrink.ensures.chunks ∙ ap (λ (x : Block). x.size) (sym was) in
    let less =
    Lessens-put s m c.shrink.ensures.laid (record { kind = refl; account = refl; context = refl; keeper = refl; first_number = refl }) s.keeper old new owned refl filled puts
    (λ at chunk found. (let none = rw c.shrink.ensures.chunks at found in absurd (cc))) in
    record {
      kept = IsKept-new n new one c.shrink.ensures.chunks (rw (← keeper_start s) filled) refl refl refl bytes;
      same = search rules;
      last = search rules;
      chunks = c.shrink.ensures.chunks;
      blocks = λ x is.
          (let size : old.size ≡ x.size = ap (λ (y : Block). y.size) (was ∙ one_value (block_at (layout_of b) b.keeper) l.0 x l.2 is) in
          ap in_order one ∙ grind (arith, c.whole.ensures, keeper_start s, ap (λ (y : Books). y.keeper) c.shrink.ensures.rest, ap (λ (y : Books). y.first_number) c.shrink.ensures.rest, size));
      moves = Moves-more (footprint (layout_of b)) (footprint s) (footprint m) c.args.space.now c.shrink.new.space c.shrink.new.space c.shrink.ensures.moves
          (MovesStill-lessened s m c.shrink.ensures.laid less (regions-put s m s.keeper new puts old owned refl) (total_one m new (ap in_order one) c.shrink.ensures.chunks ∙ sym bytes ∙ c.shrink.ensures.total)
          c.shrink.new.space c.shrink.ensures.moves.agrees);
      asked = c.shrink.ensures.asked;
    }
