use Rattle.session_owners.proofs.Base.{List, Option, Some, Result, Ok, Err, OnOk, OnErr, [], ap, refl, ◌≡◌, ◌∙◌, ℕ}
use Rattle.session_owners.proofs.Words.{What, PlanError, ResourceState, owners_of, Held}
use Rattle.session_owners.proofs.Lemmas.{acted_silent, state_of, balances_same, locks_stay}
use Rattle.session_owners.proofs.resources.Resources.reserve_plan.Goals as goal

-- what is reserved behind the call
reserves : (r : Result (Unit {0}) PlanError) (old new : Held) (plan : ℕ) → OnOk r (new ≡ record old { plans = record old.plans { reserved = Some plan } }) → OnErr r (new ≡ old) → (reserved : Option ℕ) × (new ≡ record old { plans = record old.plans { reserved = reserved } })
reserves (Ok u) old new plan ok refused = (Some plan, ok)
reserves (Err e) old new plan ok refused = (old.plans.reserved, refused)

pub returns-clause-acted : goal.returns-clause-acted
returns-clause-acted c =
    let w = reserves c.reserve_plan.result c.self.inside.tables c.reserve_plan.new.self c.args.plan c.reserve_plan.ensures.reserved c.reserve_plan.ensures.refused in
    λ commons. acted_silent c.args.self.now (state_of c.self.inside.owners c.reserve_plan.new.self.files c.self.inside.locks c.reserve_plan.new.self.snapshots.stack c.reserve_plan.new.self.plans) commons w.0 (λ (events : List What). events ≡ [])
    (ap (λ (h : Held). state_of c.self.inside.owners h.files c.self.inside.locks h.snapshots.stack h.plans) w.1
    ∙ ap (λ (r : ResourceState). record r { plans = record r.plans { reserved = w.0 } }) c.self.view_is) refl

pub returns-clause-balances : goal.returns-clause-balances
returns-clause-balances c =
    λ commons. balances_same _ _ commons (ap owners_of c.self.view_is)
    (locks_stay (state_of c.self.inside.owners c.self.inside.tables.files c.self.inside.locks c.self.inside.tables.snapshots.stack c.self.inside.tables.plans) _ _ commons.locks c.self.view_is refl)
