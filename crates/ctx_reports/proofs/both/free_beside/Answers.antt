use Rattle.std.proofs.Common.{◌≡◌, ap, ◌∙◌}
use Rattle.addr_space.proofs.Apart.{Keeps-other}
use Rattle.chunk_header.specs.declared.Stats.{Stats}
use Rattle.any_ctx.specs.Contexts.{footprint, ledger}
use Rattle.ctx_reports.specs.Alone.{total_of}
use Rattle.ctx_reports.proofs.Steps.{AreBoth-moved}
use Rattle.ctx_reports.proofs.both.free_beside.Goals as goal

pub returns-clause-both : goal.returns-clause-both
returns-clause-both c =
    let total : (footprint c.free-answer.new.self).total ≡ total_of (ledger c.free-answer.new.self) = c.stats.ensures.total ∙ ap (λ (x : Stats). x.total) c.stats.ensures.stats in
    AreBoth-moved c.args.context.now c.free-answer.new.self c.args.other.now c.args.space.now c.free-answer.new.space c.requires.both c.free-answer.ensures.moves total

pub returns-clause-keeps : goal.returns-clause-keeps
returns-clause-keeps c =
    Keeps-other (footprint c.args.context.now) (footprint c.free-answer.new.self) (footprint c.args.other.now) c.args.space.now c.free-answer.new.space c.free-answer.ensures.moves c.requires.both.apart c.requires.both.second
