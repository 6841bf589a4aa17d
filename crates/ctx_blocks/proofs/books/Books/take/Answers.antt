use Rattle.ctx_blocks.proofs.Base.{arith, Block, Books, Layout, layout_of, refl, rules, SameContext, sym, total, ◌+◌, ◌∙◌, ◌≡◌}
use Rattle.ctx_blocks.proofs.Lemmas.{block_view, empty_block, first_upto, first_view, IsCounted-put, IsFirst-put, IsLaid-added, Moves-added, none_placed, puts_view, rising_add, sum-new, unowned}
use Rattle.ctx_blocks.proofs.books.Books.take.Goals as goal

pub returns : goal.returns
returns c =
    let b : Books = c.args.self.now in
    let n : Books = record b { blocks = c.note.new.blocks; last_number = b.last_number + 1; total = b.total + c.from.result } in
    let l : Layout = layout_of b in
    let m : Layout = layout_of n in
    let number = c.in_ok-at.at.region in
    let new : Block = empty_block (b.last_number + 1) c.args.size in
    let kept = c.requires.kept in
    let same : SameContext l m = record { kind = refl; account = refl; context = refl; keeper = refl; first_number = refl } in
    let none = unowned l c.args.space.now number c.requires.agrees c.in_ok-at.ensures.fresh in
    let first = first_view b kept in
    let upto = first_upto b.keeper b.first_number b.last_number l.blocks first kept.numbered in
    let rising = rising_add b.first_number b.last_number number new l.blocks none (omega (arith, upto)) refl kept.numbered in
    let puts = puts_view b n number kept.apart c.note.ensures.apart b.first_number (b.last_number + 1) new rising c.note.ensures.at in
    let totals : total m ≡ total l + c.args.size = rw puts.blocks (sum-new (λ x. x.size) l.blocks number new none) in
    record {
      kept = record {
        laid = IsLaid-added l m number (b.last_number + 1) c.args.size kept.laid same refl none puts.at first c.requires.least c.requires.most c.requires.whole;
        counted = IsCounted-put l m number new puts.at kept.counted (sym (none_placed l kept.laid number none)) (λ other differs. refl);
        first = rw c.note.ensures.blocks (IsFirst-put b.keeper b.first_number b.blocks.entries number new (λ old owned. let fresh = sym (block_view b kept.apart number) ∙ none in absurd (cc)) kept.first);
        numbered = rw puts.blocks rising;
        total = omega (arith, kept.total, totals, c.from.ensures);
        most = omega (arith, c.from.ensures, c.requires.most);
        apart = c.note.ensures.apart;
        unique = kept.unique;
      };
      same = same;
      fresh = none;
      block = puts;
      chunks = refl;
      last = refl;
      total = totals;
      moves = Moves-added l m number (b.last_number + 1) c.args.size kept.laid same refl none puts.at first c.requires.least c.requires.most c.requires.whole totals
          c.args.space.now c.take.new.self c.write.new.self c.requires.agrees c.in_ok-at.ensures.fresh c.in_ok-at.ensures.changes c.in_ok-at.ensures.held (rw (c.in_ok-at.ensures.start, c.block_header.ensures) at c.write.ensures.changes);
      keeps = search rules;
      asked = search rules;
      fits = search rules;
      no_space = search rules;
      no_other = tt;
      err = tt;
      err_space = tt;
    }
