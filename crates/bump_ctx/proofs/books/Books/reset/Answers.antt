use Rattle.std.proofs.Common.{◌≡◌, ◌∙◌, refl}
use Rattle.chunk_header.specs.declared.Kind.TheVariants.{Bump}
use Rattle.bump_ctx.specs.declared.books.Books.{Books}
use Rattle.ctx_blocks.proofs.Changed.{alone_as}
use Rattle.ctx_blocks.specs.Layout.{keeper_alone}
use Rattle.bump_ctx.proofs.Resets.{kept_alone, ledger_alone}
use Rattle.bump_ctx.proofs.books.Books.reset.Goals as goal
use Rattle.chunk_header.proofs.Doubling.{AreSizes-first}

pub returns : goal.returns
returns c =
    let b = c.args.self.now in
    let m = c.reset.new.self in
    let e = c.reset.ensures in
    let kept = c.requires.kept in
    let n : Books = record b { next = b.sizes.init; newest = c.keeper-self.result; blocks = m } in
    let only : m.blocks ≡ keeper_alone m.keeper b.blocks.first_number b.sizes.init = alone_as m.blocks b.blocks.keeper m.keeper b.blocks.first_number kept.keeper.block.size b.sizes.init (e.blocks kept.keeper.block kept.keeper.is) e.same.keeper kept.keeper.size in
    let kind : m.kind ≡ Bump = e.same.kind ∙ kept.kind in
    let sized = AreSizes-first b.sizes.init b.sizes.max b.next kept.sizes in
    record {
      kept = kept_alone n kind sized refl b.blocks.first_number only c.keeper-self.ensures;
      ledger = ledger_alone n kind sized refl b.blocks.first_number only c.keeper-self.ensures;
      place = λ at. rw e.chunks refl;
      live = λ at. rw e.chunks refl;
      moves = e.moves;
      asked = e.asked;
    }
