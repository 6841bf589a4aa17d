use Rattle.generation_ctx.proofs.Words.{◌∙◌, sym, ap, stats, state_of}
use Rattle.chunk_header.specs.declared.Stats.{Stats}
use Rattle.generation_ctx.proofs.GenerationCtx.stats.Goals as goal

pub returns-clause-total : goal.returns-clause-total
unfolding stats
returns-clause-total c = rw (← (ap state_of c.deref.ensures ∙ c.self.view_is)) (ap (λ (x : Stats). x.total) (sym c.stats.ensures))
