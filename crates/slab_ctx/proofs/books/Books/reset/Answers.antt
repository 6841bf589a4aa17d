use Rattle.slab_ctx.proofs.Words.{refl}
use Rattle.slab_ctx.proofs.Lemmas.{Moves-full, kept-none}
use Rattle.slab_ctx.proofs.books.Books.reset.Goals as goal

pub returns-clause-kept : goal.returns-clause-kept
returns-clause-kept c = kept-none (record { slots = c.reset.new.self; empty = 0; free = 0; ranks = c.clear.new.self }) c.reset.ensures.slots c.reset.ensures.blocks refl refl c.clear.ensures.ranked c.clear.ensures.empty

pub returns-clause-moves : goal.returns-clause-moves
returns-clause-moves c = Moves-full _ _ c.args.self.now.slots.blocks c.reset.new.self.blocks _ _ _ c.reset.ensures.size c.reset.ensures.slots c.reset.ensures.moves
