use Rattle.generation_ctx.proofs.Words.{◌≡◌, true, ap, sym, ◌∙◌, inr, arith, Header, IsAlone}
use Rattle.generation_ctx.proofs.books.Books.room_at.Goals as goal
use Rattle.generation_ctx.proofs.books.Books.room_at.Goals.{Then-header}

pub header-header-requires-clause-kind : goal.header-header-requires-clause-kind
header-header-requires-clause-kind c = inr c.requires.kept.kind

-- the chunk is alone in its block
alone : (c : Then-header) → IsAlone c.args.self.now.blocks c.args.self.now.current c.args.at c.requires.chunk.0
alone c =
    let chunk = c.requires.chunk in
    let own : chunk.0.own ≡ true = sym (ap (λ (h : Header). h.own) (c.header-header.ensures chunk.0 chunk.1)) ∙ c.if-header.true in
    c.requires.kept.alone c.args.at chunk.0 chunk.1 own

pub block-requires : goal.block-requires
block-requires c = let a = alone (goal.at.block-requires c).Then-header in (a.block, a.is)

pub overflow_sub-result : goal.overflow_sub-result
overflow_sub-result c = let a = alone (goal.at.overflow_sub-result c).Then-header in grind (arith, a.whole, a.is, c.block.ensures)

pub returns-then-header : goal.returns-then-header
returns-then-header c = λ chunk found.
    (let a = alone (goal.at.returns-then-header c).Then-header in grind (arith, a.whole, a.is, c.block.ensures, c.requires.chunk.1, found))

pub returns : goal.returns
returns c = λ chunk found. (let header = c.header-header.ensures chunk found in grind (arith, c.if-header.false))
