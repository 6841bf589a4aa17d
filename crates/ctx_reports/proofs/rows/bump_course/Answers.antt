use Rattle.ctx_reports.proofs.Steps.{answered}
use Rattle.ctx_reports.proofs.Runs.{row-bump_course}
use Rattle.ctx_reports.proofs.rows.bump_course.Goals as goal

pub returns : goal.returns
returns c = answered c.new_course.result row-bump_course c.new_course.ensures
