use Rattle.slab_ctx.proofs.Words.{None, refl, ap, ◌∙◌, places_put, numbers_among, place, state_of}
use Rattle.slab_ctx.proofs.Lemmas.{Agrees_plain}
use Rattle.slab_ctx.proofs.SlabCtx.free.Goals as goal

pub returns-clause-place : goal.returns-clause-place
returns-clause-place c =
    let b = c.deref_mut.result.now in
    let n = c.free.new.self in
    let l = b.slots.blocks in
    let m = n.slots.blocks in
    let s = c.args.space.now in
    let t = c.free.new.space in
    let f = c.free.ensures in
    let agrees = Agrees_plain b.slots.size l s (rw (← (ap state_of c.deref_mut.ensures.value ∙ c.self.view_is)) at c.requires.agrees) in
    rw (← (ap state_of c.deref_mut.ensures.value ∙ c.self.view_is)) (places_put place l m s t agrees (Agrees_plain n.slots.size m t f.moves.agrees) (numbers_among l m f.among) c.args.at None None f.chunk refl)

pub returns-clause-keeps : goal.returns-clause-keeps
returns-clause-keeps c = rw (← (ap state_of c.deref_mut.ensures.value ∙ c.self.view_is)) c.free.ensures.keeps
