use Rattle.lock_local.proofs.Lemmas.{agrees_by, fit_lowered, taken_lowered}
use Rattle.lock_local.proofs.lock_table.LockTable.lower.Goals as goal

pub count_down-count-requires-clause-agrees : goal.count_down-count-requires-clause-agrees
count_down-count-requires-clause-agrees c = agrees_by _ _ _ c.self.view_is c.requires

pub invariant_of-self : goal.invariant_of-self
invariant_of-self c = record {
  fits = fit_lowered c.args.owner c.args.object c.args.mode _ _ c.count_down-count.result c.self.invariant.fits c.count_down-count.ensures.none c.count_down-count.ensures.held;
  by_owner = c.forget_last.ensures.by_owner;
  remembers = c.forget_last.ensures.remembers _ _ c.self.invariant.remembers c.count_down-count.ensures.answer c.count_down-count.ensures.none c.count_down-count.ensures.counts;
  taken = taken_lowered _ _ c.count_down-count.result _ c.self.invariant.taken c.count_down-count.ensures.none c.count_down-count.ensures.total;
}

pub returns-clause-locks : goal.returns-clause-locks
returns-clause-locks c = (fit_lowered c.args.owner c.args.object c.args.mode _ _ c.count_down-count.result c.self.invariant.fits c.count_down-count.ensures.none c.count_down-count.ensures.held).0
