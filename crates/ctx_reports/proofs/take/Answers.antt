use Rattle.std.proofs.Common.{◌≡◌, ap, ◌∙◌}
use Rattle.chunk_header.specs.declared.Stats.{Stats}
use Rattle.any_ctx.specs.Contexts.{footprint, ledger}
use Rattle.ctx_reports.specs.Alone.{total_of}
use Rattle.ctx_reports.proofs.Steps.{IsAlone-moved, Served-taken}
use Rattle.ctx_reports.proofs.take.Goals as goal

pub returns-clause-alone : goal.returns-clause-alone
returns-clause-alone c =
    let total : (footprint c.alloc.new.self).total ≡ total_of (ledger c.alloc.new.self) = c.stats.ensures.total ∙ ap (λ (x : Stats). x.total) c.stats.ensures.stats in
    IsAlone-moved c.args.context.now c.alloc.new.self c.args.space.now c.alloc.new.space c.requires.alone c.in_ok-at.ensures.moves total

pub returns-clause-served : goal.returns-clause-served
returns-clause-served c = Served-taken c.args.context.now c.alloc.new.self c.args.size c.in_ok-at.at c.args.space.now c.alloc.new.space c.requires.alone c.in_ok-at.ensures.taken
