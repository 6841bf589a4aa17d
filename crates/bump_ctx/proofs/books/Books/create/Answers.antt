use Rattle.std.proofs.Common.{refl}
use Rattle.chunk_header.specs.Growth.{AreSizes}
use Rattle.bump_ctx.specs.declared.books.Books.{Books}
use Rattle.bump_ctx.proofs.Resets.{kept_alone, ledger_alone}
use Rattle.bump_ctx.proofs.books.Books.create.Goals as goal
use Rattle.bump_ctx.proofs.books.Books.create.Goals.{In_ok-blocks}

sized : (c : In_ok-blocks) → AreSizes c.args.sizes.init c.args.sizes.max c.args.sizes.init
sized c = record { least = c.requires.least; order = c.requires.order; most = c.requires.most; whole_init = c.requires.whole_init; whole_max = c.requires.whole_max; next_least = c.requires.least; next_most = c.requires.order; next_whole = c.requires.whole_init }

pub returns-clause-kept : goal.returns-clause-kept
returns-clause-kept c =
    let n : Books = record { sizes = c.args.sizes; next = c.args.sizes.init; newest = c.keeper-newest.result; blocks = c.in_ok-blocks.blocks } in
    kept_alone n c.in_ok-blocks.ensures.kind (sized (goal.at.returns-clause-kept c).In_ok-blocks) refl 1 c.in_ok-blocks.ensures.blocks c.keeper-newest.ensures

pub returns-clause-ledger : goal.returns-clause-ledger
returns-clause-ledger c =
    let n : Books = record { sizes = c.args.sizes; next = c.args.sizes.init; newest = c.keeper-newest.result; blocks = c.in_ok-blocks.blocks } in
    ledger_alone n c.in_ok-blocks.ensures.kind (sized (goal.at.returns-clause-ledger c).In_ok-blocks) refl 1 c.in_ok-blocks.ensures.blocks c.keeper-newest.ensures
