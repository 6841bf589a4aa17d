use Rattle.generation_ctx.proofs.Words.{None, refl, AreSizes}
use Rattle.generation_ctx.proofs.Lemmas.{alone}
use Rattle.generation_ctx.proofs.books.Books.create.Goals as goal
use Rattle.generation_ctx.proofs.books.Books.create.Goals.{In_ok-blocks}

sized : (c : In_ok-blocks) → AreSizes c.args.sizes.init c.args.sizes.max c.args.sizes.init
sized c = record { least = c.requires.least; order = c.requires.order; most = c.requires.most; whole_init = c.requires.whole_init; whole_max = c.requires.whole_max; next_least = c.requires.least; next_most = c.requires.order; next_whole = c.requires.whole_init }

pub returns-clause-kept : goal.returns-clause-kept
returns-clause-kept c =
    let e = c.in_ok-blocks.ensures in
    (alone _ e.kind e.numbers.0 e.numbers.1 (sized (goal.at.returns-clause-kept c).In_ok-blocks) e.blocks c.keeper-current.ensures refl e.chunks refl).0

pub returns-clause-ledger : goal.returns-clause-ledger
returns-clause-ledger c =
    let e = c.in_ok-blocks.ensures in
    (alone (record { sizes = c.args.sizes; next = c.args.sizes.init; current = c.keeper-current.result; spare = None; blocks = c.in_ok-blocks.blocks }) e.kind e.numbers.0 e.numbers.1 (sized (goal.at.returns-clause-ledger c).In_ok-blocks) e.blocks c.keeper-current.ensures refl e.chunks refl).1
