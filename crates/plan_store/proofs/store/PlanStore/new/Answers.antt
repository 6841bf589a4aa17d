use Rattle.plan_store.proofs.PlanLemmas.{are-none}
use Rattle.plan_store.proofs.store.PlanStore.new.Goals as goal

pub invariant_of-result : goal.invariant_of-result
invariant_of-result c = rw c.new.ensures (are-none, tt)
