use Rattle.slab_ctx.proofs.Words.{ap, ◌∙◌, state_of}
use Rattle.slab_ctx.proofs.SlabCtx.headed.Goals as goal

pub returns-clause-kinds : goal.returns-clause-kinds
returns-clause-kinds c = rw (← (ap state_of c.deref.ensures ∙ c.self.view_is)) c.headed.ensures.kinds

pub returns-clause-spaces : goal.returns-clause-spaces
returns-clause-spaces c = rw (← (ap state_of c.deref.ensures ∙ c.self.view_is)) c.headed.ensures.spaces
