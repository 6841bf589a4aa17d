use Rattle.ctx_blocks.proofs.Base.{arith, Block, sym, ◌+◌, ◌∙◌, ◌≤◌}
use Rattle.ctx_blocks.proofs.Lemmas.{sum-in_order, Summed, summed-all, summed-more}
use Rattle.ctx_blocks.proofs.books.Books.freed.Goals as goal
use Rattle.ctx_blocks.proofs.books.Books.freed.Goals.{After-at}

more : (c : After-at) → (c.loop-i.sum + c.at.result.1.freed ≤ c.args.self.now.total) × Summed (λ b. b.freed) c.args.self.now.blocks.entries (c.loop-i.i + 1) (c.loop-i.sum + c.at.result.1.freed) c.args.self.now.total
more c =
    let filled = c.requires.laid.filled c.at.result.0 c.at.result.1 c.at.ensures.block in
    summed-more (λ b. b.freed) c.args.self.now.blocks.entries c.loop-i.i c.loop-i.sum c.args.self.now.total c.at.result c.at.ensures.entry (omega (arith, filled.within)) c.loop-i.invariant

pub overflow_add-sum : goal.overflow_add-sum
overflow_add-sum c = let it = (more (goal.at.overflow_add-sum c).After-at).0 in omega (arith, c.requires.most, c.from-sum.ensures)

pub loop-i-init : goal.loop-i-init
loop-i-init c = record { all = omega arith; most = omega (arith, c.requires.total, sum-in_order (λ (b : Block). b.size) c.args.self.now.blocks.entries) }

pub loop-i-preserved : goal.loop-i-preserved
loop-i-preserved c = rw c.from-sum.ensures ((more (goal.at.loop-i-preserved c).After-at).1)

pub returns : goal.returns
returns c = summed-all (λ (b : Block). b.freed) c.args.self.now.blocks.entries c.loop-i.i c.loop-i.sum c.args.self.now.total (omega arith) c.loop-i.invariant ∙ sym (sum-in_order (λ b. b.freed) c.args.self.now.blocks.entries)
