use Rattle.lock_local.proofs.Base.{ap, arith, lock_total}
use Rattle.lock_local.proofs.Lemmas.{few_added}
use Rattle.lock_local.proofs.local_lock.LocalLock.count_up.Goals as goal

pub invariant_of-self-2 : goal.invariant_of-self-2
invariant_of-self-2 c =
    few_added _ 1 _ _ c.self.invariant.0 (omega arith) (omega (arith, c.requires, ap lock_total c.self.view_is)) c.in_ok-add.ensures.ok
