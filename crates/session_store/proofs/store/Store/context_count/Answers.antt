-- What the tree answers is what the session's contexts are.
use Rattle.session_store.proofs.Words.{ap, ◌∙◌, size, StoreState, session_of}
use Rattle.session_store.proofs.store.Store.context_count.Goals as goal

pub returns : goal.returns
unfolding session_of
returns g c s = c.count.ensures.value s ∙ ap (λ (a : StoreState). size (session_of a s).contexts) c.self.view_is
