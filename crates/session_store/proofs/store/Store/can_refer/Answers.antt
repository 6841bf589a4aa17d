-- The session's plans are those of its owners.
use Rattle.session_store.proofs.Words.{◌≡◌, false, subst, not, option_map_or, plan_at, StoreState, session_of}
use Rattle.session_store.proofs.store.Store.can_refer.Goals as goal

pub returns-clause-session : goal.returns-clause-session
unfolding session_of
returns-clause-session g c s =
    subst (λ (v : StoreState). c.can_refer.result ≡ option_map_or (λ p. not p.discarded) (plan_at c.args.plan (session_of v s).plans) false) c.self.view_is c.can_refer.ensures.standing
