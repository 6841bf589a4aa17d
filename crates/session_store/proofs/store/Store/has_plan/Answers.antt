-- The session's plans are those of its owners.
use Rattle.session_store.proofs.Words.{◌≡◌, subst, is_some, plan_at, StoreState, session_of}
use Rattle.session_store.proofs.store.Store.has_plan.Goals as goal

pub returns : goal.returns
unfolding session_of
returns g c s = subst (λ (v : StoreState). c.has_plan.result ≡ is_some (plan_at c.args.plan (session_of v s).plans)) c.self.view_is c.has_plan.ensures.standing
