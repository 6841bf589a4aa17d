use Rattle.generation_ctx.proofs.Words.{arith}
use Rattle.generation_ctx.proofs.Lemmas.{block_is}
use Rattle.generation_ctx.proofs.books.Books.fitting_spare.Goals as goal

pub returns-then-block-bytes-clause-value : goal.returns-then-block-bytes-clause-value
returns-then-block-bytes-clause-value c = rw c.in_ok-number.was (grind (arith, block_is c.args.self.now c.in_ok-number.number c.block.result c.requires.numbered c.block.ensures, c.if-block-bytes.true))

pub returns-clause-value : goal.returns-clause-value
returns-clause-value c = rw c.in_ok-number.was (grind (arith, block_is c.args.self.now c.in_ok-number.number c.block.result c.requires.numbered c.block.ensures, c.if-block-bytes.false))
