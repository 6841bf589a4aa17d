use Rattle.generation_ctx.proofs.Words.{ap, ◌∙◌, ◌≡◌, ◌*◌, min, refl, arith, GenerationLedger, with_new, block_size, AreSizes-next}
use Rattle.generation_ctx.proofs.Lemmas.{kept_next, kept_add, ledger_add}
use Rattle.generation_ctx.proofs.books.Books.add.Goals as goal

pub returns-clause-ok : goal.returns-clause-ok
unfolding with_new block_size
returns-clause-ok c =
    let b = c.args.self.now in
    let e = c.in_ok-number.ensures in
    let kept = c.requires.kept in
    let doubled : c.min-self.result ≡ min (2 * b.next) b.sizes.max = grind (arith, c.min-self.ensures) in
    record {
      kept = kept_next (record b { blocks = c.add.new.self }) _ (kept_add b _ _ _ kept e.same e.fresh e.block refl e.last e.chunks) (rw doubled (AreSizes-next _ _ _ kept.sizes));
      ledger_is = ap (λ (l : GenerationLedger). record l { next = c.min-self.result }) (ledger_add b _ _ _ kept e.same e.fresh e.block refl e.last) ∙ rw (doubled, ← c.grown-size.ensures.value) (grind (arith, kept.numbered.some));
      chunks = e.chunks;
      account = e.same.account;
      moves = c.add.ensures.moves;
      keeps = c.add.ensures.keeps;
    }
