use Rattle.ctx_blocks.proofs.Base.{ap, arith, Books, footprint, layout_of, length, length-take, Moves-more, refl, sym, take_all, ◌∙◌}
use Rattle.ctx_blocks.proofs.Lemmas.{first_only, IsLaid-lessened, Lessens, Lessens-cleared, MovesStill-lessened, take-less}
use Rattle.ctx_blocks.proofs.books.Books.shrink.Goals as goal

pub loop-self-init : goal.loop-self-init
loop-self-init c =
    let b : Books = c.args.self.now in
    let n : Books = record b { chunks = c.none-self.result } in
    let less : Lessens (layout_of b) (layout_of n) = Lessens-cleared (layout_of b) (layout_of n) c.requires.kept.laid (record { kind = refl; account = refl; context = refl; keeper = refl; first_number = refl }) refl c.none-self.ensures in
    record {
      apart = c.requires.kept.apart;
      laid = IsLaid-lessened (layout_of b) (layout_of n) c.requires.kept.laid less;
      total = c.requires.kept.total;
      rest = refl;
      chunks = c.none-self.ensures;
      asked = refl;
      blocks = sym (take_all (length b.blocks.entries) b.blocks.entries (omega arith));
      enough = omega (arith, c.requires.few, ap length (first_only b.keeper b.first_number b.blocks.entries c.requires.kept.first).1, length-take 1 b.blocks.entries);
      moves = MovesStill-lessened (layout_of b) (layout_of n) c.requires.kept.laid less (λ number. refl) refl c.args.space.now c.requires.agrees;
    }

pub loop-self-preserved : goal.loop-self-preserved
loop-self-preserved c =
    let b : Books = c.args.self.now in
    let m : Books = c.loop-self.self in
    let n : Books = c.drop_last.new.self in
    let was = c.loop-self.invariant in
    record {
      apart = c.drop_last.ensures.apart;
      laid = c.drop_last.ensures.laid;
      total = c.drop_last.ensures.total;
      rest = c.drop_last.ensures.rest ∙ ap (λ (x : Books). record x { blocks = n.blocks; total = n.total }) was.rest ∙ ap (λ k. record b { blocks = n.blocks; chunks = k; total = n.total }) (ap (λ (x : Books). x.chunks) (sym c.drop_last.ensures.rest));
      chunks = ap (λ (x : Books). x.chunks.entries) c.drop_last.ensures.rest ∙ was.chunks;
      blocks = take-less b.blocks.entries m.blocks.entries n.blocks.entries was.blocks c.drop_last.ensures.blocks c.drop_last.ensures.len;
      enough = omega (arith, c.loop-self-test.true, c.len.ensures.len, c.drop_last.ensures.len);
      asked = c.drop_last.ensures.asked ∙ was.asked;
      moves = Moves-more (footprint (layout_of b)) (footprint (layout_of m)) (footprint (layout_of n)) c.args.space.now c.loop-self.space c.drop_last.new.space was.moves c.drop_last.ensures.moves;
    }
