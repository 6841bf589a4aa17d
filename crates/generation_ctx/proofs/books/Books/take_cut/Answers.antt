use Rattle.generation_ctx.proofs.Words.{arith, granted, cut, take_cut, ledger_of}
use Rattle.generation_ctx.proofs.Lemmas.{block_is}
use Rattle.generation_ctx.proofs.books.Books.take_cut.Goals as goal

pub returns-then-block-granted-clause-ok : goal.returns-then-block-granted-clause-ok
unfolding take_cut
returns-then-block-granted-clause-ok c =
    let here = block_is c.args.self.now _ _ c.requires.kept.numbered c.block.ensures in
    record { answer = cut (ledger_of c.args.self.now) (granted c.args.size) 0; is = grind (arith, c.if-block-granted.true, c.granted.ensures.value); does = c.cut.ensures.allocates }
