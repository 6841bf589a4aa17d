use Rattle.std.proofs.Common.{◌≡◌, ap, ◌∙◌}
use Rattle.chunk_header.specs.declared.Stats.{Stats}
use Rattle.any_ctx.specs.Contexts.{footprint, ledger}
use Rattle.ctx_reports.specs.Alone.{total_of}
use Rattle.ctx_reports.proofs.Steps.{IsAlone-moved}
use Rattle.ctx_reports.proofs.resize.Goals as goal

pub returns-in-Ok-clause-alone : goal.returns-in-Ok-clause-alone
returns-in-Ok-clause-alone c =
    let total : (footprint c.realloc.new.self).total ≡ total_of (ledger c.realloc.new.self) = c.stats.ensures.total ∙ ap (λ (x : Stats). x.total) c.stats.ensures.stats in
    IsAlone-moved c.args.context.now c.realloc.new.self c.args.space.now c.realloc.new.space c.requires.alone c.realloc.ensures.moves total
