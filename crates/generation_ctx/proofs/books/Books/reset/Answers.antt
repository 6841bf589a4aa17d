use Rattle.generation_ctx.proofs.Words.{◌≡◌, ◌∙◌, None, refl, reset, Books, keeper_alone, AreSizes-first}
use Rattle.generation_ctx.proofs.Lemmas.{alone}
use Rattle.generation_ctx.proofs.books.Books.reset.Goals as goal

pub returns : goal.returns
unfolding reset
returns c =
    let b = c.args.self.now in
    let e = c.reset.ensures in
    let kept = c.requires.kept in
    let n : Books = record { sizes = b.sizes; next = b.sizes.init; current = c.keeper-self.result; spare = None; blocks = c.reset.new.self } in
    let only : c.reset.new.self.blocks ≡ keeper_alone c.reset.new.self.keeper 1 b.sizes.init = rw e.same.keeper (e.blocks kept.keeper.block kept.keeper.is ∙ rw (kept.numbered.first, kept.keeper.size) refl) in
    let it = alone n (e.same.kind ∙ kept.kind) (e.same.first_number ∙ kept.numbered.first) (e.last ∙ kept.numbered.first) (AreSizes-first _ _ _ kept.sizes) only c.keeper-self.ensures refl e.chunks refl in
    record { kept = it.0; ledger = it.1; chunks = e.chunks; asked = e.asked; moves = e.moves }
