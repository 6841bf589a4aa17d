use Rattle.ctx_blocks.proofs.Base.{Books, Chunk, layout_of, refl, sym, ◌∙◌}
use Rattle.ctx_blocks.proofs.Lemmas.{IsLaid-lessened, Lessens-sized, MovesStill-lessened}
use Rattle.ctx_blocks.proofs.books.Books.set_size.Goals as goal

pub returns : goal.returns
returns c =
    let b : Books = c.args.self.now in
    let l = layout_of b in
    let m = layout_of (record b { chunks = c.set_size.new.chunks }) in
    let kept = c.requires.kept in
    let old : Chunk = c.requires.chunk.0 in
    let puts = c.set_size.ensures.at old c.requires.chunk.1 in
    let less =
    Lessens-sized l m kept.laid (record { kind = refl; account = refl; context = refl; keeper = refl; first_number = refl }) refl c.args.at old (record old { size = c.args.size }) c.requires.chunk.1 refl refl c.requires.chunk.2 puts in
    record {
      kept = record {
        laid = IsLaid-lessened l m kept.laid less;
        counted = λ number block has. kept.counted number block has ∙ sym (c.set_size.ensures.count old c.requires.chunk.1 number);
        first = kept.first;
        numbered = kept.numbered;
        total = kept.total;
        most = kept.most;
        apart = kept.apart;
        unique = c.set_size.ensures.unique kept.unique;
      };
      same = less.same;
      last = refl;
      chunk = c.set_size.ensures.at;
      blocks = refl;
      moves = MovesStill-lessened l m kept.laid less (λ number. refl) refl;
    }
