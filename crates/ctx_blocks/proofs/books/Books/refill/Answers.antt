use Rattle.ctx_blocks.proofs.Base.{ap, arith, Block, block_at, Books, Layout, layout_of, one_value, PutsBlock, refl, subst, sym, ◌∙◌}
use Rattle.ctx_blocks.proofs.Lemmas.{IsCounted-put, IsFilled-whole, IsKept-put, IsLaid-lessened, Lessens-put, MovesStill-lessened, none_in, puts_view, regions-put, rising_put, total-put}
use Rattle.ctx_blocks.proofs.books.Books.refill.Goals as goal

pub returns : goal.returns
returns c =
    let b : Books = c.args.self.now in
    let n : Books = record b { blocks = c.change.new.blocks } in
    let l : Layout = layout_of b in
    let m : Layout = layout_of n in
    let old : Block = c.owned-old.result in
    let owned = c.owned-old.ensures in
    let new : Block = record { number = old.number; size = old.size; room = c.whole.result; live = 0; freed = 0 } in
    let kept = c.requires.kept in
    let none = ap (λ (x : Block). x.live) (one_value (block_at l c.args.number) old c.requires.block.0 owned c.requires.block.1) ∙ c.requires.block.2 in
    let puts = puts_view b n c.args.number kept.apart c.change.ensures.apart b.first_number b.last_number new (rising_put b.first_number b.last_number c.args.number l.blocks old new kept.numbered owned refl) c.change.ensures.at in
    let less =
    Lessens-put l m kept.laid (record { kind = refl; account = refl; context = refl; keeper = refl; first_number = refl }) c.args.number old new owned refl
    (IsFilled-whole l c.args.number old.number c.whole.result old (kept.laid.filled c.args.number old owned) c.whole.ensures) puts.at
    (λ at chunk found. (found, λ region. (let gone = none_in l kept.counted c.args.number old at owned none region in absurd (cc)))) in
    record {
      kept = IsKept-put b n c.args.number old new kept less.same refl refl c.change.ensures.blocks puts c.change.ensures.apart owned refl refl kept.unique (IsLaid-lessened l m kept.laid less)
          (IsCounted-put l m c.args.number new puts.at kept.counted (sym none ∙ kept.counted c.args.number old owned) (λ other differs. refl));
      same = less.same;
      last = refl;
      chunks = refl;
      block = λ x is.
          (let it = one_value (block_at l c.args.number) old x owned is in
          subst (λ (y : Block). PutsBlock l m c.args.number y) (grind (arith, it, c.whole.ensures)) puts);
      moves = MovesStill-lessened l m kept.laid less (regions-put l m c.args.number new puts.at old owned refl) (total-put l m c.args.number old new puts.blocks owned refl);
    }
