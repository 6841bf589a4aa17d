use Rattle.ctx_blocks.proofs.Base.{footprint, Keeps, Layout, layout_of, subst}
use Rattle.ctx_blocks.proofs.books.Books.add.Goals as goal

pub returns-clause-keeps : goal.returns-clause-keeps
returns-clause-keeps c = subst (λ (l : Layout). Keeps (footprint l) (footprint (layout_of c.take.new.self)) c.args.space.now c.take.new.space) c.in_ok-make_room.ensures.same c.take.ensures.keeps
