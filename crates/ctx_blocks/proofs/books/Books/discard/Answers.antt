use Rattle.ctx_blocks.proofs.Base.{ap, arith, footprint, in_order, layout_of, Moves-more, nat_tests, nothing}
use Rattle.ctx_blocks.proofs.Lemmas.{Moves-nothing}
use Rattle.ctx_blocks.proofs.books.Books.discard.Goals as goal

pub returns-clause-moves : goal.returns-clause-moves
returns-clause-moves c = grind (arith, nat_tests, Moves-more (footprint (layout_of c.args.self)) (footprint (layout_of c.shrink.new.self)) (nothing c.args.self.account c.args.self.context) c.args.space.now c.shrink.new.space c.shrink.new.space c.shrink.ensures.moves, Moves-nothing (layout_of c.shrink.new.self) c.args.self.account c.args.self.context (ap in_order c.shrink.ensures.blocks), c.shrink.ensures.moves, c.shrink.ensures.blocks, c.shrink.ensures.rest, c.shrink.ensures.moves.agrees)
