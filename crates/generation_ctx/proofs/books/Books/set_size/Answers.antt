use Rattle.generation_ctx.proofs.Words.{true, refl, arith, MovesAt-same, chunk_at, among_same, numbers_among, resize, place_in, ledger_of}
use Rattle.generation_ctx.proofs.Lemmas.{kept_sized}
use Rattle.generation_ctx.proofs.books.Books.set_size.Goals as goal

pub returns : goal.returns
unfolding resize
returns c =
    let b = c.args.self.now in
    let m = c.set_size.new.self in
    let at = c.args.at in
    let q = c.requires.chunk in
    let e = c.set_size.ensures in
    let puts = e.chunk q.0 q.1 in
    record {
      kept = kept_sized b m at q.0 _ c.requires.kept e.same e.last e.blocks q.1 puts refl refl;
      old = q.0;
      was = q.1;
      answer = record { ledger = ledger_of b; place = place_in b.blocks at.region q.0; asked = 0; stays = true };
      step = grind (arith, c.requires.size, q.2);
      ledger = rw (e.last, e.blocks) refl;
      fresh = λ ne. absurd (ne refl);
      chunk = MovesAt-same (chunk_at b.blocks) (chunk_at m) (chunk_at m) at _ puts;
      number = rw e.blocks refl;
      numbers = numbers_among b.blocks m (among_same b.blocks m e.blocks);
      asked = refl;
      stays = (λ _. refl, λ _. refl);
      bytes = λ k below. refl;
      moves = e.moves c.args.space.now c.requires.agrees;
      keeps = λ other p r k ne live again below short. refl;
    }
