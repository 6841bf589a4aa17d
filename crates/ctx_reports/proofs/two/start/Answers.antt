use Rattle.std.proofs.Common.{◌≡◌, ap, ◌∙◌}
use Rattle.chunk_header.specs.declared.Stats.{Stats}
use Rattle.any_ctx.specs.Contexts.{footprint, ledger}
use Rattle.ctx_reports.specs.Alone.{total_of}
use Rattle.ctx_reports.proofs.Steps.{AreBoth-new}
use Rattle.ctx_reports.proofs.two.start.Goals as goal

pub returns-clause-both : goal.returns-clause-both
returns-clause-both c =
    let total : (footprint c.in_ok-first.first).total ≡ total_of (ledger c.in_ok-first.first) = c.stats.ensures.total ∙ ap (λ (x : Stats). x.total) c.stats.ensures.stats in
    let other : (footprint c.in_ok-second.second).total ≡ total_of (ledger c.in_ok-second.second) = c.stats-2.ensures.total ∙ ap (λ (x : Stats). x.total) c.stats-2.ensures.stats in
    AreBoth-new c.in_ok-first.first c.in_ok-second.second 7 8 c.args.space.now c.create.new.space c.create-2.new.space c.requires.regions c.in_ok-first.ensures.account c.in_ok-second.ensures.account c.in_ok-first.ensures.moves c.in_ok-second.ensures.moves total other
