use Rattle.ctx_reports.proofs.Steps.{answered}
use Rattle.ctx_reports.proofs.Runs.{row-a_cut_up_block}
use Rattle.ctx_reports.proofs.rows.a_cut_up_block.Goals as goal

pub returns : goal.returns
returns c = answered c.new_pair.result row-a_cut_up_block c.new_pair.ensures
