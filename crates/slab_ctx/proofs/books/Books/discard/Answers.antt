use Rattle.slab_ctx.proofs.Lemmas.{Moves-gone}
use Rattle.slab_ctx.proofs.books.Books.discard.Goals as goal

pub returns-clause-moves : goal.returns-clause-moves
returns-clause-moves c =
    let s = c.args.self.slots in
    Moves-gone s.size s.blocks.account s.blocks.context s.blocks c.args.space.now c.discard.new.space c.discard.ensures.moves
