use Rattle.generation_ctx.proofs.Words.{◌∙◌, subst, sym, refl, turned, stopped, number_of, ledger_of, IsKept, Rearranges, Books}
use Rattle.generation_ctx.proofs.Lemmas.{kept_seated, seated}
use Rattle.generation_ctx.proofs.books.Books.turn_to.Goals as goal

pub stop-requires-clause-kept : goal.stop-requires-clause-kept
stop-requires-clause-kept c = let block = c.requires.block in subst IsKept (sym c.seat.ensures) (kept_seated c.args.self.now c.args.number block.0 c.requires.kept block.1 block.2)

pub returns-clause-rearranges : goal.returns-clause-rearranges
unfolding turned
returns-clause-rearranges c =
    let b = c.args.self.now in
    let block = c.requires.block in
    let r = subst (λ (x : Books). Rearranges x c.stop.new.self c.args.space.now c.stop.new.space (stopped (ledger_of x) (number_of x.blocks b.current))) c.seat.ensures c.stop.ensures.rearranges in
    record { kept = r.kept; ledger_is = r.ledger_is ∙ rw (seated b.blocks b.current c.args.number b.spare block.0 c.requires.kept.numbered block.1 c.requires.kept.spare) refl; chunks = r.chunks; account = r.account; moves = r.moves; keeps = r.keeps }
