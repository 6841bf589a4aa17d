use Rattle.ctx_blocks.proofs.Base.{ap, arith, lookup, Some, sym, ◌==◌, ◌∙◌, ◌≡◌}
use Rattle.ctx_blocks.proofs.Lemmas.{block_view}
use Rattle.ctx_blocks.proofs.books.Books.is_at.Goals as goal

pub returns-in-Some : goal.returns-in-Some
returns-in-Some c = λ is.
    (let block = c.in-Some.field-0-1.now in
    let key : c.in-Some.other.now ≡ c.args.number = grind (arith, is) in
    (block, sym c.in-Some.ensures.entry ∙ ap (λ n. Some (n, block)) key, block_view c.args.self.now c.requires c.args.number ∙ ap (λ k. lookup (λ n. k == n) c.args.self.now.blocks.entries) (sym key) ∙ c.in-Some.ensures.value))
