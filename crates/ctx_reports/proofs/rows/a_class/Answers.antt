use Rattle.ctx_reports.proofs.Steps.{answered}
use Rattle.ctx_reports.proofs.Runs.{row-a_class}
use Rattle.ctx_reports.proofs.rows.a_class.Goals as goal

pub returns : goal.returns
returns c = answered c.new_pair.result row-a_class c.new_pair.ensures
