use Rattle.ctx_blocks.proofs.Base.{arith, lookup_key_passes, nat_tests}
use Rattle.ctx_blocks.proofs.Lemmas.{block_view}
use Rattle.ctx_blocks.proofs.books.Books.find.Goals as goal

pub returns-in-Some-clause-some : goal.returns-in-Some-clause-some
returns-in-Some-clause-some c = grind (arith, nat_tests, lookup_key_passes, block_view c.args.self.now c.requires c.args.number, c.in-Some.ensures.key, c.in-Some.ensures.entry, c.requires, c.in-Some.ensures.value)
