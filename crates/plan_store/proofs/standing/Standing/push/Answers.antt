use Rattle.std.proofs.Common.{◌≡◌, ◌<◌, None, nat_eq, sym, ap, subst, ◌∙◌}
use Rattle.std.specs.Map.{lookup}
use Rattle.std.specs.HashMap.{spare}
use Rattle.plan_store.specs.Kept.{KeptPlans}
use Rattle.plan_store.proofs.KeptLemmas.{kept_made, on_ok}
use Rattle.plan_store.proofs.standing.Standing.push.Goals as goal

pub invariant_of-self : goal.invariant_of-self
invariant_of-self c =
    let fresh : lookup (nat_eq c.args.number) c.self.inside.order.plans ≡ None = ap (λ (k : KeptPlans). lookup (nat_eq c.args.number) k.plans) c.self.view_is ∙ c.requires.fresh in
    let room : 0 < spare c.self.inside.plans = subst (λ (k : KeptPlans). 0 < k.room) (sym c.self.view_is) c.requires.room in
    rw c.with-order.ensures (kept_made c.self.inside.plans.entries c.insert.new.self.entries c.self.inside.order.plans c.args.number c.args.plan c.self.invariant fresh (on_ok c.insert.result (c.insert.ensures.succeeds room) c.insert.ensures.updates).0)
