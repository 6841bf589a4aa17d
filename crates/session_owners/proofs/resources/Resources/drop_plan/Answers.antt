use Rattle.session_owners.proofs.Base.{arith, ap, refl, subst}
use Rattle.session_owners.proofs.Words.{AreLeft, plan_dropped, ResourceState, owners_of}
use Rattle.session_owners.proofs.Lemmas.{acted_dropped, state_of, balances_same, locks_stay}
use Rattle.session_owners.proofs.resources.Resources.drop_plan.Goals as goal

pub returns-clause-acted : goal.returns-clause-acted
returns-clause-acted g c = grind (arith, state_of c.self.inside.owners c.self.inside.tables.files c.self.inside.locks c.self.inside.tables.snapshots.stack c.self.inside.tables.plans, state_of c.self.inside.owners c.drop_plan.new.self.files c.self.inside.locks c.drop_plan.new.self.snapshots.stack c.drop_plan.new.self.plans, state_of c.self.inside.owners, acted_dropped (plan_dropped c.args.plan) c.drop_plan.ensures.done.0, c.drop_plan.ensures.done, c.self.view_is, c.drop_plan.ensures.done.0, c.drop_plan.ensures.alone, c.drop_plan.ensures.done.1, c.drop_plan.ensures.done.2)

pub returns-clause-left : goal.returns-clause-left
returns-clause-left g c = subst (λ (r : ResourceState). AreLeft r.plans.standing c.drop_plan.new.self.plans.standing) c.self.view_is c.drop_plan.ensures.left

pub returns-clause-balances : goal.returns-clause-balances
returns-clause-balances g c =
    λ commons. balances_same _ _ commons (ap owners_of c.self.view_is)
    (locks_stay (state_of c.self.inside.owners c.self.inside.tables.files c.self.inside.locks c.self.inside.tables.snapshots.stack c.self.inside.tables.plans) _ _ commons.locks c.self.view_is refl)
