-- What the tree answers is what the session's contexts have.
use Rattle.session_store.proofs.Words.{ap, ◌∙◌, is_protected, StoreState, session_of}
use Rattle.session_store.proofs.store.Store.protected.Goals as goal

pub returns : goal.returns
unfolding session_of
returns g c s = c.protected.ensures s ∙ ap (λ (a : StoreState). is_protected c.args.at.number (session_of a s).contexts) c.self.view_is
