use Rattle.session_owners.proofs.Base.{◌∷◌, ◌++◌, None, ap, false, refl, [], List, ◌≡◌, ◌∙◌}
use Rattle.session_owners.proofs.Words.{What, Plan, ResourceState, owners_of, Held}
use Rattle.session_owners.proofs.Lemmas.{acted_added, state_of, balances_same, locks_stay}
use Rattle.session_owners.proofs.resources.Resources.make_plan.Goals as goal

pub returns-clause-acted : goal.returns-clause-acted
returns-clause-acted c =
    let plan : Plan = record { context = c.args.context; discarded = false; references = 0 } in
    λ commons. acted_added c.args.plan plan c.args.self.now (state_of c.self.inside.owners c.make_plan.new.self.files c.self.inside.locks c.make_plan.new.self.snapshots.stack c.make_plan.new.self.plans) commons (λ (events : List What). events ≡ []) refl refl
    (ap (λ (h : Held). state_of c.self.inside.owners h.files c.self.inside.locks h.snapshots.stack h.plans) c.make_plan.ensures.made
    ∙ ap (λ (r : ResourceState). record r { plans = record { standing = r.plans.standing ++ (c.args.plan, plan) ∷ []; reserved = None } }) c.self.view_is) refl

pub returns-clause-balances : goal.returns-clause-balances
returns-clause-balances c =
    λ commons. balances_same _ _ commons (ap owners_of c.self.view_is)
    (locks_stay (state_of c.self.inside.owners c.self.inside.tables.files c.self.inside.locks c.self.inside.tables.snapshots.stack c.self.inside.tables.plans) _ _ commons.locks c.self.view_is refl)
