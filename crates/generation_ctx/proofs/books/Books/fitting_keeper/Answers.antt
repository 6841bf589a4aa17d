use Rattle.generation_ctx.proofs.Words.{◌≡◌, ◌≢◌, ◌∙◌, Some, ap, sym, arith, block_at, block_in, number_of, ledger_of}
use Rattle.generation_ctx.proofs.Lemmas.{block_is, one_region}
use Rattle.generation_ctx.proofs.books.Books.fitting_keeper.Goals as goal
use Rattle.generation_ctx.proofs.books.Books.fitting_keeper.Goals.{After-block-block}

is : (c : After-block-block) → block_at c.args.self.now.blocks c.args.self.now.blocks.keeper ≡ Some c.block-block.result
is c = rw (← c.keeper-keeper.ensures) c.block-block.ensures

here : (c : After-block-block) → block_in (ledger_of c.args.self.now) 1 ≡ c.block-block.result
here c = ap (block_in (ledger_of c.args.self.now)) (sym c.requires.numbered.keeper) ∙ block_is c.args.self.now _ _ c.requires.numbered (is c)

other : (c : After-block-block) → (ledger_of c.args.self.now).current ≢ 1
other c = λ e. c.if-self-keeper.false (one_region c.args.self.now.blocks c.args.self.now.current c.args.self.now.blocks.keeper _ _ c.requires.numbered c.requires.current.is (is c) (e ∙ sym c.requires.numbered.keeper) ∙ sym c.keeper-keeper.ensures)

pub returns-then-block-gt0-clause-value : goal.returns-then-block-gt0-clause-value
returns-then-block-gt0-clause-value c = let at = (goal.at.returns-then-block-gt0-clause-value c).After-block-block in grind (arith, other at, here at, c.if-block-gt0.true)

pub returns-then-block-bytes-clause-value : goal.returns-then-block-bytes-clause-value
returns-then-block-bytes-clause-value c =
    let at = (goal.at.returns-then-block-bytes-clause-value c).After-block-block in
    grind (arith, other at, here at, c.if-block-gt0.false, c.if-block-bytes.true)

pub returns-clause-value : goal.returns-clause-value
returns-clause-value c =
    let at = (goal.at.returns-clause-value c).After-block-block in
    let one : number_of c.args.self.now.blocks c.keeper-keeper.result ≡ 1 = ap (number_of c.args.self.now.blocks) c.keeper-keeper.ensures ∙ c.requires.numbered.keeper in
    grind (arith, other at, here at, c.if-block-gt0.false, c.if-block-bytes.false)
