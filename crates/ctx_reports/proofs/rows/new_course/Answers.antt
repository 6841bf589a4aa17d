use Rattle.std.proofs.Common.{◌≡◌, ap, ◌∙◌}
use Rattle.chunk_header.specs.declared.Stats.{Stats}
use Rattle.any_ctx.specs.Contexts.{footprint, ledger}
use Rattle.ctx_reports.specs.Alone.{total_of}
use Rattle.ctx_reports.proofs.Steps.{IsAlone-new}
use Rattle.ctx_reports.proofs.rows.new_course.Goals as goal

pub report_course-requires : goal.report_course-requires
report_course-requires c =
    let total : (footprint c.in_ok-context.context).total ≡ total_of (ledger c.in_ok-context.context) = c.stats.ensures.total ∙ ap (λ (x : Stats). x.total) c.stats.ensures.stats in
    IsAlone-new c.in_ok-context.context 0 7 c.in_ok-space.space c.create.new.space c.in_ok-space.ensures.regions c.in_ok-context.ensures.account c.in_ok-context.ensures.moves total
