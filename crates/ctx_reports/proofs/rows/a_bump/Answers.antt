use Rattle.ctx_reports.proofs.Steps.{answered}
use Rattle.ctx_reports.proofs.Runs.{row-a_bump}
use Rattle.ctx_reports.proofs.rows.a_bump.Goals as goal

pub returns : goal.returns
returns c = answered c.new_pair.result row-a_bump c.new_pair.ensures
