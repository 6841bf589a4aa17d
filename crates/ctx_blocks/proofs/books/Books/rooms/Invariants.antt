use Rattle.ctx_blocks.proofs.Lemmas.{Summed}
use Rattle.ctx_blocks.proofs.books.Books.rooms.Given as goal

abbrev pub invariant-loop-i : goal.invariant-loop-i
invariant-loop-i l = Summed (λ b. b.room) l.self.blocks.entries l.i l.sum l.self.total
