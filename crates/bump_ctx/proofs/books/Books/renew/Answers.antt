use Rattle.std.proofs.Common.{◌≡◌, ◌+◌, ◌-◌, ◌*◌, ◌∙◌, ap, sym, refl, min, arith}
use Rattle.bump_ctx.specs.Ledger.{renewed, block_size}
use Rattle.bump_ctx.specs.Kept.{ledger_of}
use Rattle.bump_ctx.proofs.Ledgers.{ledger_renewed}
use Rattle.bump_ctx.proofs.books.Books.renew.Goals as goal

pub returns-clause-ledger : goal.returns-clause-ledger
unfolding block_size
returns-clause-ledger c =
    let b = c.args.self.now in
    let size = c.grown-size.result in
    let it : block_size (ledger_of b) c.args.room ≡ size = sym c.grown-size.ensures.value in
    let doubled : c.min-self.result ≡ min (2 * b.next) b.sizes.max = grind (arith, c.min-self.ensures) in
    let e = c.in_ok-self.ensures in
    ledger_renewed b c.add.new.self c.in_ok-self.field-0 (record { number = b.blocks.last_number + 1; size = size; room = size - 40; live = 0; freed = 0 }) c.min-self.result c.requires.kept e.block e.fresh refl e.total doubled
    ∙ ap (renewed (ledger_of b)) (sym it)
