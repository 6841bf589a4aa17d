use Rattle.ctx_reports.proofs.Steps.{answered}
use Rattle.ctx_reports.proofs.Runs.{row-a_slab}
use Rattle.ctx_reports.proofs.rows.a_slab.Goals as goal

pub returns : goal.returns
returns c = answered c.new_pair.result row-a_slab c.new_pair.ensures
