use Rattle.lock_local.proofs.Base.{filter-from_retain, nat_eq, not, rules}
use Rattle.lock_local.proofs.local_lock.take_off.Goals as goal

pub returns-clause-items : goal.returns-clause-items
returns-clause-items c = filter-from_retain _ (λ x. not (nat_eq x.owner c.args.owner)) _ (λ x b f y k. search rules) _ _ c.retain.ensures.filtered
