use Rattle.ctx_blocks.proofs.Base.{Books, layout_of}
use Rattle.ctx_blocks.proofs.Lemmas.{chunks_clear, first_view, none_in, region_by_number, some_in}
use Rattle.ctx_blocks.proofs.Blocks.laid.Goals as goal

pub returns : goal.returns
returns c =
    let b : Books = c.self.inside.books in
    let kept = c.self.invariant in
    rw (← c.self.view_is) (record {
      first = first_view b kept;
      numbers = λ a other first second. region_by_number b.first_number b.last_number a other (layout_of b).blocks first second kept.numbered;
      filled = kept.laid.filled;
      placed = kept.laid.placed;
      apart = chunks_clear (layout_of b) kept.laid;
      empty = none_in (layout_of b) kept.counted;
      some = some_in (layout_of b) kept.counted;
      rising = kept.numbered;
    })
