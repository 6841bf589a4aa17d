use Rattle.alloc_set.proofs.Base.{ap, arith, Books, IsCleared, Moves-more, nat_tests, subst, sym, ◌∙◌}
use Rattle.alloc_set.proofs.Lemmas.{sum-least}
use Rattle.alloc_set.proofs.books.Books.give_blocks.Goals as goal

pub give_block-requires-clause-counted : goal.give_block-requires-clause-counted
give_block-requires-clause-counted c = grind (arith, nat_tests, sum-least c.loop-number.self.blocks.entries c.in-Some.number c.in-Some.size c.in-Some.ensures.some, c.loop-number.invariant.cleared, c.loop-number.invariant.kept.counted.total, c.in-Some.ensures.some, c.loop-number.invariant.cleared.active, c.loop-number.invariant.cleared.chunks, c.loop-number.invariant.cleared.idle, c.loop-number.invariant.kept.counted.sizes.0)

pub loop-number-preserved : goal.loop-number-preserved
loop-number-preserved c =
    let n = c.give_block.new.self in
    let kept = c.loop-number.invariant in
    record {
      kept = c.give_block.ensures.kept;
      cleared = subst IsCleared (sym c.give_block.ensures.rest) (record { next = kept.cleared.next; active = kept.cleared.active; chunks = kept.cleared.chunks; shelves = kept.cleared.shelves; idle = kept.cleared.idle });
      rest = c.give_block.ensures.rest ∙ ap (λ (x : Books). record x { blocks = n.blocks; total = n.total; count = n.count }) kept.rest;
      moves = Moves-more _ _ _ _ _ _ kept.moves c.give_block.ensures.moves;
      asked = c.give_block.ensures.asked ∙ kept.asked;
    }
