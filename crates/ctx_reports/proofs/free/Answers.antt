use Rattle.std.proofs.Common.{◌≡◌, ap, ◌∙◌}
use Rattle.chunk_header.specs.declared.Stats.{Stats}
use Rattle.any_ctx.specs.Contexts.{footprint, ledger}
use Rattle.ctx_reports.specs.Alone.{total_of}
use Rattle.ctx_reports.proofs.Steps.{IsAlone-moved}
use Rattle.ctx_reports.proofs.free.Goals as goal

pub returns-in-Ok-clause-alone : goal.returns-in-Ok-clause-alone
returns-in-Ok-clause-alone c =
    let total : (footprint c.free.new.self).total ≡ total_of (ledger c.free.new.self) = c.stats.ensures.total ∙ ap (λ (x : Stats). x.total) c.stats.ensures.stats in
    IsAlone-moved c.args.context.now c.free.new.self c.args.space.now c.free.new.space c.requires.alone c.free.ensures.moves total
