use Rattle.slab_ctx.proofs.Words.{ap, ◌∙◌, state_of, live_whole}
use Rattle.slab_ctx.proofs.SlabCtx.aligned.Goals as goal

pub returns : goal.returns
returns c = rw (← (ap state_of c.deref.ensures ∙ c.self.view_is)) (live_whole c.deref.result.now.slots.blocks c.laid.ensures.placed)
