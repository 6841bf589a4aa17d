use Rattle.ctx_reports.proofs.Steps.{answered}
use Rattle.ctx_reports.proofs.Runs.{row-set_course}
use Rattle.ctx_reports.proofs.rows.set_course.Goals as goal

pub returns : goal.returns
returns c = answered c.new_course.result row-set_course c.new_course.ensures
