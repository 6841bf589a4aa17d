use Rattle.slab_ctx.proofs.Words.{refl}
use Rattle.slab_ctx.proofs.Lemmas.{Moves-made, kept-none}
use Rattle.slab_ctx.proofs.books.Books.create.Goals as goal

pub returns-clause-kept : goal.returns-clause-kept
returns-clause-kept c = kept-none (record { slots = c.in_ok-slots.slots; empty = 0; free = 0; ranks = c.new.result }) c.in_ok-slots.ensures.slots c.in_ok-slots.ensures.blocks refl refl c.new.ensures.ranked c.new.ensures.empty

pub returns-clause-moves : goal.returns-clause-moves
returns-clause-moves c = Moves-made _ c.args.account c.args.context c.in_ok-slots.slots.blocks _ _ _ c.in_ok-slots.ensures.slots c.in_ok-slots.ensures.moves
