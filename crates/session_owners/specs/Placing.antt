-- Where the contexts of plans lie: what a release asks of them, and what it leaves.
use Rattle.std.specs.Prelude.{◌≡◌, ℕ, true, false, List, [], ◌∷◌, ◌++◌, All, Contains, map}
use Rattle.pgs_step.specs.declared.ids.CtxId.{CtxId}
use Rattle.pgs_step.specs.declared.events.What.{What}
use Rattle.plan_store.specs.declared.plan.Plan.{Plan}
use Rattle.session_rules.specs.World.{Scene}
use Rattle.session_rules.specs.Lookup.{plan_at}
use Rattle.session_rules.specs.Acts.{Ended, changes, where_there}
use Rattle.session_rules.specs.Releases.{plan_becomes}
use Rattle.session_rules.specs.Standing.{AreApart}
use Rattle.session_owners.specs.PlanStates.{plan_state}
use Rattle.session_owners.specs.Hosting.{Hosting, HostsFit}

-- where the contexts of the plans lie
abbrev pub contexts_of : List (ℕ × Plan) → List CtxId
contexts_of standing = map (λ plan. plan.1.context) standing

-- The context of each plan may go, and no two of them are the same.
pub record PlansFit (May : CtxId → Type 0) (standing : List (ℕ × Plan)) : Type 0 where
  pub each : All May (contexts_of standing)
  pub apart : AreApart (map plan_state standing)

-- plans may have gone, and their counts may have changed: each context of a plan was one before
abbrev pub AreLeft : List (ℕ × Plan) → List (ℕ × Plan) → Type 0
AreLeft old new = (id : CtxId) → Contains (contexts_of new) id → Contains (contexts_of old) id

-- a plan is there, whose context is made apart from it
abbrev pub plan_added : ℕ → ℕ → Scene → Ended
plan_added plan context scene =
    changes (λ session. record session { plans = session.plans ++ (record { number = plan; context = context; discarded = false; references = 0 } ∷ []) }) scene

-- the plan of that number, where one stands, is discarded
abbrev pub plan_dropped : ℕ → Scene → Ended
plan_dropped plan scene =
    where_there (plan_at plan scene.session.plans) (λ p. plan_becomes (record p { discarded = true })) scene

-- the scene with these plans, contexts and hooks
abbrev pub with_plans : List (ℕ × Plan) → Hosting → Scene → Scene
with_plans standing hosting scene = record scene {
  session = record scene.session { plans = map plan_state standing; contexts = hosting.contexts };
  around = record scene.around { shelf = hosting.shelf };
}

-- An act leads from plans, contexts and hooks to others and changes nothing else, and says these events.
pub record PlansDo (act : Scene → Ended) (events : List What) (old new : List (ℕ × Plan)) (h k : Hosting) : Type 0 where
  pub leads : (scene : Scene) → scene.session.plans ≡ map plan_state old → HostsFit h scene → (act scene).scene ≡ with_plans new k scene
  pub says : (scene : Scene) → scene.session.plans ≡ map plan_state old → HostsFit h scene → (act scene).events ≡ events
