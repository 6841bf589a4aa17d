use Rattle.lock_local.proofs.Base.{ap, count_if, sum_by, ◌∙◌}
use Rattle.lock_local.proofs.Lemmas.{few_handed}
use Rattle.lock_local.proofs.local_lock.LocalLock.pass.Goals as goal

pub invariant_of-self : goal.invariant_of-self
invariant_of-self c = few_handed c.args.from _ _ _ _ c.self.invariant (c.count_of-count.ensures ∙ ap (sum_by (count_if c.args.from)) c.as_slice.ensures) c.if-count-gt0.true c.hand_over.ensures
