use Rattle.generation_ctx.proofs.Words.{◌≤◌, IsPlaced, put_here}
use Rattle.generation_ctx.proofs.Lemmas.{frees_less, ledger_less}
use Rattle.generation_ctx.proofs.books.Books.forget.Goals as goal
use Rattle.generation_ctx.proofs.books.Books.forget.Goals.{After-laid}

-- the block of the chunk
abbrev placed : (c : After-laid) → IsPlaced c.args.self.now.blocks c.args.at c.requires.chunk.0
placed c = c.laid.ensures.placed c.args.at c.requires.chunk.0 c.requires.chunk.1

some : (c : After-laid) → 1 ≤ (placed c).block.live
some c = c.laid.ensures.some c.args.at c.requires.chunk.0 (placed c).block c.requires.chunk.1 (placed c).owned

pub returns-clause-frees : goal.returns-clause-frees
returns-clause-frees c =
    let at = (goal.at.returns-clause-frees c).After-laid in
    let p = placed at in
    let e = c.remove.ensures in
    frees_less _ _ _ _ c.requires.kept p.owned e.last (e.block _ p.owned) e.same e.chunk c.laid-2.ensures.some (some at) e.moves _ c.requires.agrees

pub returns-clause-ledger : goal.returns-clause-ledger
returns-clause-ledger c =
    let p = placed (goal.at.returns-clause-ledger c).After-laid in
    ledger_less _ _ c.args.at _ c.requires.kept p.owned c.remove.ensures.last (c.remove.ensures.block _ p.owned)

pub returns-clause-less : goal.returns-clause-less
returns-clause-less c =
    let at = (goal.at.returns-clause-less c).After-laid in
    let p = placed at in
    record { block = p.block; was = p.owned; some = some at; is = put_here _ _ _ _ (c.remove.ensures.block _ p.owned) }
