use Rattle.std.proofs.Common.{ap, length, ◌∙◌}
use Rattle.plan_store.specs.Kept.{KeptPlans}
use Rattle.plan_store.proofs.KeptLemmas.{kept_length}
use Rattle.plan_store.proofs.standing.Standing.len.Goals as goal

pub returns : goal.returns
returns c = c.len.ensures.len ∙ kept_length c.self.inside.plans.entries c.self.inside.order.plans c.self.invariant c.len.ensures.unique ∙ ap (λ (k : KeptPlans). length k.plans) c.self.view_is
