use Rattle.std.proofs.Common.{refl}
use Rattle.bump_ctx.specs.Ledger.{stats}
use Rattle.bump_ctx.proofs.BumpCtx.counted.Goals as goal

pub returns : goal.returns
unfolding stats
returns c = rw (← c.self.view_is) refl
