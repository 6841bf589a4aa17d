use Rattle.std.proofs.Common.{◌≡◌, ap, ◌∙◌}
use Rattle.addr_space.proofs.Apart.{Keeps-other}
use Rattle.chunk_header.specs.declared.Stats.{Stats}
use Rattle.any_ctx.specs.Contexts.{footprint, ledger}
use Rattle.ctx_reports.specs.Alone.{total_of}
use Rattle.ctx_reports.proofs.Steps.{AreBoth-moved}
use Rattle.ctx_reports.proofs.both.reset_beside.Goals as goal

pub returns-clause-both : goal.returns-clause-both
returns-clause-both c =
    let total : (footprint c.reset.new.self).total ≡ total_of (ledger c.reset.new.self) = c.stats.ensures.total ∙ ap (λ (x : Stats). x.total) c.stats.ensures.stats in
    AreBoth-moved c.args.context.now c.reset.new.self c.args.other.now c.args.space.now c.reset.new.space c.requires c.reset.ensures.moves total

pub returns-clause-keeps : goal.returns-clause-keeps
returns-clause-keeps c =
    Keeps-other (footprint c.args.context.now) (footprint c.reset.new.self) (footprint c.args.other.now) c.args.space.now c.reset.new.space c.reset.ensures.moves c.requires.apart c.requires.second
