use Rattle.ctx_reports.proofs.Steps.{answered}
use Rattle.ctx_reports.proofs.Runs.{row-slab_course}
use Rattle.ctx_reports.proofs.rows.slab_course.Goals as goal

pub returns : goal.returns
returns c = answered c.new_course.result row-slab_course c.new_course.ensures
