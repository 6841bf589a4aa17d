use Rattle.alloc_set.proofs.Base.{ap, footprint, inl, inr, Keeps-more, Moves-more, put_at-cases, Some, state_of, StaysLive, sym, ◌∙◌}
use Rattle.alloc_set.proofs.books.Books.cut_free.Goals as goal

pub returns-clause-moves : goal.returns-clause-moves
returns-clause-moves c = Moves-more _ _ _ _ _ _ c.cut-at.ensures.moves c.shelve.ensures.moves

pub returns-clause-keeps : goal.returns-clause-keeps
returns-clause-keeps c =
    let f = footprint (state_of c.args.self.now) in
    let g = footprint (state_of c.cut-at.new.self) in
    let first = c.cut-at.ensures in
    -- no chunk was live where one was cut
    let stays : StaysLive f g = λ other size live. elim (put_at-cases f.live g.live c.cut-at.result (Some 0) first.live other) [
      | inl here ↦ let clash = sym first.fresh ∙ ap f.live (sym here.0) ∙ live in absurd (cc)
      | inr there ↦ there.1 ∙ live
    ] in
    Keeps-more f g (footprint (state_of c.shelve.new.self)) c.args.space.now c.cut-at.new.space c.shelve.new.space stays first.keeps c.shelve.ensures.keeps
