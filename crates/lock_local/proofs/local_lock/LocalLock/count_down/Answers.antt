use Rattle.lock_local.proofs.Base.{ap, arith, owner_count}
use Rattle.lock_local.proofs.Lemmas.{few_lowered}
use Rattle.lock_local.proofs.local_lock.LocalLock.count_down.Goals as goal

pub invariant_of-self : goal.invariant_of-self
invariant_of-self c = few_lowered c.args.owner _ _ c.self.invariant (omega (arith, c.requires, ap (owner_count c.args.owner) c.self.view_is)) c.lower.ensures
