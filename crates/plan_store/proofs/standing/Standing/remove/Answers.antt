use Rattle.plan_store.proofs.KeptLemmas.{kept_removed}
use Rattle.plan_store.proofs.standing.Standing.remove.Goals as goal

pub invariant_of-self : goal.invariant_of-self
invariant_of-self c = rw c.without-order.ensures (kept_removed c.self.inside.plans.entries c.remove.new.self.entries c.self.inside.order.plans c.args.number c.self.invariant c.remove.ensures.updates.0)
