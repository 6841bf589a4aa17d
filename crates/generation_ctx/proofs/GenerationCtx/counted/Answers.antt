use Rattle.generation_ctx.proofs.Words.{refl, stats}
use Rattle.generation_ctx.proofs.GenerationCtx.counted.Goals as goal

pub returns : goal.returns
unfolding stats
returns c = rw (← c.self.view_is) refl
