use Rattle.ctx_blocks.proofs.Base.{arith, nat_tests}
use Rattle.ctx_blocks.proofs.Lemmas.{IsKept-new}
use Rattle.ctx_blocks.proofs.books.Books.unplaced.Goals as goal

pub returns-clause-kept : goal.returns-clause-kept
returns-clause-kept c = grind (arith, nat_tests, IsKept-new, c.note.ensures.blocks, c.in-Ok.ensures.empty, c.none.ensures, c.from.ensures)
