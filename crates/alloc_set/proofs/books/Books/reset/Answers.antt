use Rattle.alloc_set.proofs.Base.{Moves-more}
use Rattle.alloc_set.proofs.books.Books.reset.Goals as goal

pub returns-clause-moves : goal.returns-clause-moves
returns-clause-moves c =
    Moves-more _ _ _ _ _ _ (c.clear.ensures.moves c.requires.kept c.args.space.now c.requires.agrees) c.give_blocks.ensures.moves
