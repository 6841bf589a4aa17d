use Rattle.generation_ctx.proofs.Words.{◌≡◌, ◌==◌, ℕ, if◌then◌else◌, Some, refl, arith, block_at, Block, set_aside, stopped, number_of, ledger_of, IsKept, Books}
use Rattle.generation_ctx.proofs.Lemmas.{block_is, keeper_test, rearranges_none}
use Rattle.generation_ctx.proofs.books.Books.stop.Goals as goal

-- the ledger's step, by what is compared
step : (b : Books) (number : ℕ) (block : Block) → IsKept b → block_at b.blocks number ≡ Some block
    → stopped (ledger_of b) (number_of b.blocks number) ≡ (if number == b.blocks.keeper then ledger_of b else (if block.live == 0 then set_aside (ledger_of b) (number_of b.blocks number) else ledger_of b))
unfolding stopped
step b number block kept is = rw (keeper_test b.blocks number kept.keeper.block block kept.numbered kept.keeper.is is, block_is b number block kept.numbered is) refl

pub returns-then-keeper-number-clause-rearranges : goal.returns-then-keeper-number-clause-rearranges
returns-then-keeper-number-clause-rearranges c =
    let is = step _ _ _ c.requires.kept c.requires.block.1.is in
    rearranges_none _ _ _ c.requires.kept c.requires.agrees (grind (arith, c.keeper.ensures, c.if-keeper-number.true))

pub returns-then-block-eq0-clause-rearranges : goal.returns-then-block-eq0-clause-rearranges
returns-then-block-eq0-clause-rearranges c =
    let is = step _ _ _ c.requires.kept c.block.ensures in
    let aside : stopped (ledger_of c.args.self.now) (number_of c.args.self.now.blocks c.args.number) ≡ set_aside (ledger_of c.args.self.now) (number_of c.args.self.now.blocks c.args.number) = grind (arith, c.keeper.ensures, c.if-keeper-number.false, c.if-block-eq0.true) in
    rw aside c.set_aside.ensures.rearranges

pub returns-else-block-eq0-clause-rearranges : goal.returns-else-block-eq0-clause-rearranges
returns-else-block-eq0-clause-rearranges c =
    let is = step _ _ _ c.requires.kept c.block.ensures in
    rearranges_none _ _ _ c.requires.kept c.requires.agrees (grind (arith, c.keeper.ensures, c.if-keeper-number.false, c.if-block-eq0.false))
