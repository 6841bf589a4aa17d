use Rattle.std.proofs.Common.{ap, ◌∙◌}
use Rattle.bump_ctx.specs.Kept.{state_of}
use Rattle.ctx_blocks.proofs.Aligned.{live_whole}
use Rattle.bump_ctx.proofs.BumpCtx.aligned.Goals as goal

pub returns : goal.returns
returns c = rw (← (ap state_of c.deref.ensures ∙ c.self.view_is)) (live_whole c.deref.result.now.blocks c.laid.ensures.placed)
