use Rattle.std.proofs.Common.{◌≡◌, ℕ, ◌-◌, Ok, ap, sym, ◌∙◌, arith}
use Rattle.addr_space.specs.Space.{held}
use Rattle.bump_ctx.specs.Ledger.{BumpLedger, cut_off, renewed, served, block_size, take_new, take_cut}
use Rattle.bump_ctx.specs.Kept.{ledger_of}
use Rattle.bump_ctx.proofs.Allocated.{allocates_more}
use Rattle.bump_ctx.proofs.books.Books.take_cut.Goals as goal

pub returns-clause-ok : goal.returns-clause-ok
unfolding take_cut take_new
returns-clause-ok c =
    let b = c.args.self.now in
    let e = c.in_ok-renew.ensures in
    let room = c.granted-room.result in
    let size : ℕ = block_size (ledger_of b) room in
    let step : take_cut (ledger_of b) (c.args.space.now.limit - held c.args.space.now b.blocks.account) room ≡ Ok (served (cut_off (renewed (ledger_of b) size) room) size) = grind (arith, c.room.ensures, c.if-room.false, e.fits) in
    let same = step ∙ ap (λ (l : BumpLedger). Ok (served (cut_off l room) size)) (sym e.ledger) in
    rw (← c.granted-room.ensures.value) (rw same (allocates_more b c.renew.new.self c.cut-2.new.self c.args.space.now c.renew.new.space c.cut-2.new.space c.args.size c.cut-2.result (cut_off (ledger_of c.renew.new.self) room) size e.chunks e.account e.moves e.keeps e.asked c.cut-2.ensures))
