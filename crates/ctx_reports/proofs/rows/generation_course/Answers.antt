use Rattle.ctx_reports.proofs.Steps.{answered}
use Rattle.ctx_reports.proofs.Runs.{row-generation_course}
use Rattle.ctx_reports.proofs.rows.generation_course.Goals as goal

pub returns : goal.returns
returns c = answered c.new_course.result row-generation_course c.new_course.ensures
