use Rattle.slab_ctx.proofs.Words.{◌≡◌, ◌%◌, ap, sym, subst, ◌∙◌, Addr, if_ok, Moves-none, footprint, place_at, state_of, Books}
use Rattle.slab_ctx.proofs.Lemmas.{some_with, some_is, resizes_same, live_stays, both_ok}
use Rattle.slab_ctx.proofs.SlabCtx.realloc.Goals as goal

pub returns-clause-resized : goal.returns-clause-resized
returns-clause-resized c =
    let b = c.self.inside.books.value in
    rw (← c.self.view_is) (both_ok c.realloc.result (λ to same size.
    some_with (place_at (state_of b) c.args.at) (λ place there. resizes_same b c.args.space.now c.args.at to place c.args.size same (size.0 ∙ ap (λ (x : Books). x.slots.size) c.deref.ensures) size.1 there)) c.realloc.ensures.at c.realloc.ensures.size)

pub returns-clause-live : goal.returns-clause-live
returns-clause-live c =
    let b = c.self.inside.books.value in
    rw (← c.self.view_is) (both_ok c.realloc.result (λ to same size.
    live_stays b c.args.at to c.args.size same (size.0 ∙ ap (λ (x : Books). x.slots.size) c.deref.ensures) c.self.invariant.slots (rw (← c.self.view_is) at c.requires.live)) c.realloc.ensures.at c.realloc.ensures.size)

pub returns-clause-moves : goal.returns-clause-moves
returns-clause-moves c = Moves-none (footprint c.args.self.now) c.args.space.now c.requires.agrees

pub returns-clause-aligned : goal.returns-clause-aligned
returns-clause-aligned c =
    let live = some_is ((footprint c.args.self.now).live c.args.at) c.requires.live in
    if_ok c.realloc.result (λ to same. subst (λ (x : Addr). x.offset % 8 ≡ 0) (sym same) (c.aligned.ensures c.args.at live.0 live.1)) c.realloc.ensures.at
