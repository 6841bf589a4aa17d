use Rattle.generation_ctx.proofs.Words.{◌≡◌, ◌+◌, ap, subst, ◌∙◌, TakesSpace, footprint, chunk_at, GenerationPlace, from_map, place_in, state_of}
use Rattle.generation_ctx.proofs.GenerationCtx.headed.Goals as goal

pub returns-clause-kinds : goal.returns-clause-kinds
returns-clause-kinds c = rw (← (ap state_of c.deref.ensures ∙ c.self.view_is)) c.headed.ensures.kinds

pub returns-clause-spaces : goal.returns-clause-spaces
returns-clause-spaces c = rw (← (ap state_of c.deref.ensures ∙ c.self.view_is)) (λ at place there.
    (let l = c.deref.result.now.blocks in
    let it = from_map (place_in l at.region) (chunk_at l at) place there in
    let room : it.0.room + 8 ≡ place.room + 8 = ap (λ (p : GenerationPlace). p.room + 8) it.2 in
    subst (TakesSpace (footprint l) at) room (c.headed.ensures.spaces at it.0 it.1)))
