use Rattle.generation_ctx.proofs.Words.{◌∙◌, arith, give}
use Rattle.generation_ctx.proofs.Lemmas.{own_of, freed_is, frees_more}
use Rattle.generation_ctx.proofs.books.Books.free_shared.Goals as goal

pub returns-then-block-eq0-clause-frees : goal.returns-then-block-eq0-clause-frees
returns-then-block-eq0-clause-frees c = frees_more _ _ _ _ _ _ _ _ c.forget.ensures.frees c.empty.ensures.rearranges c.empty.ensures.among

pub returns-then-block-eq0-clause-ledger : goal.returns-then-block-eq0-clause-ledger
unfolding give
returns-then-block-eq0-clause-ledger c = λ chunk there.
    (let f = c.forget.ensures in
    let q = c.requires.chunk in
    let step = freed_is _ _ _ c.requires.kept f.less f.ledger in
    rw (own_of c.args.self.now.blocks c.args.at chunk _ there q.1 q.2) (c.empty.ensures.rearranges.ledger_is ∙ grind (arith, f.less.is, f.less.some, c.block.ensures, c.if-block-eq0.true)))

pub returns-else-block-eq0-clause-ledger : goal.returns-else-block-eq0-clause-ledger
unfolding give
returns-else-block-eq0-clause-ledger c = λ chunk there.
    (let f = c.forget.ensures in
    let q = c.requires.chunk in
    let step = freed_is _ _ _ c.requires.kept f.less f.ledger in
    rw (own_of c.args.self.now.blocks c.args.at chunk _ there q.1 q.2) (grind (arith, f.less.is, c.block.ensures, c.if-block-eq0.false)))
