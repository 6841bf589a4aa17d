use Rattle.generation_ctx.proofs.Words.{◌≡◌, ◌+◌, ◌∙◌, refl, ap, arith, one_value, block_at, header_room, gap_of, Block, among_put, number_put, numbers_among, cut_off, cut, number_of}
use Rattle.generation_ctx.proofs.Lemmas.{block_is, numbered_put, ledger_put, spare_current, kept_put, were_put}
use Rattle.generation_ctx.proofs.books.Books.cut.Goals as goal

pub returns-clause-allocates : goal.returns-clause-allocates
unfolding cut_off cut
returns-clause-allocates c =
    let b = c.args.self.now in
    let n = c.cut.new.self in
    let e = c.cut.ensures in
    let kept = c.requires.kept in
    let is = kept.current.is in
    let room = c.granted.result in
    let puts = e.block _ is in
    let bytes : header_room b.blocks + room ≡ room + 8 = omega (arith, ap gap_of kept.kind) in
    record {
      kept = kept_put b n _ _ kept e.same puts (λ other there. ap (λ (x : Block). x.size) (one_value (block_at b.blocks b.current) _ other is there)) (numbered_put _ _ _ _ _ is puts refl kept.numbered e.same e.last) (spare_current b.blocks _ b.spare kept.spare)
          (were_put b.blocks n _ _ _ e.chunk refl (λ at x there own. (kept.alone at x there own).not_current));
      ledger = ledger_put b n _ _ _ is puts refl kept e.last ∙ rw (block_is b b.current _ kept.numbered is, bytes, c.granted.ensures.value) refl;
      fresh = e.fresh;
      chunk = rw (← c.granted.ensures.value) e.chunk;
      number = ap (number_of n) e.region ∙ number_put b.blocks n _ _ _ is puts refl b.current;
      numbers = numbers_among b.blocks n (among_put b.blocks n _ _ _ is puts refl);
      asked = e.asked;
      moves = e.moves;
      keeps = e.keeps;
    }

pub returns-clause-among : goal.returns-clause-among
returns-clause-among c = let is = c.requires.kept.current.is in among_put _ _ _ _ _ is (c.cut.ensures.block _ is) refl
