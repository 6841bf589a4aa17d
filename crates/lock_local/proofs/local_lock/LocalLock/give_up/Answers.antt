use Rattle.lock_local.proofs.Lemmas.{few_others}
use Rattle.lock_local.proofs.local_lock.LocalLock.give_up.Goals as goal

pub invariant_of-self : goal.invariant_of-self
invariant_of-self c = few_others c.args.owner _ _ c.self.invariant c.take_off.ensures.items
