use Rattle.ctx_reports.proofs.Steps.{answered}
use Rattle.ctx_reports.proofs.Runs.{row-an_own_block}
use Rattle.ctx_reports.proofs.rows.an_own_block.Goals as goal

pub returns : goal.returns
returns c = answered c.new_pair.result row-an_own_block c.new_pair.ensures
