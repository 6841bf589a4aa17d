-- What the tree answers is what the session's contexts have.
use Rattle.session_store.proofs.Words.{◌≡◌, length, OnOk, subst, shown, bytes_refusal, error_of, StoreState, session_of}
use Rattle.session_store.proofs.store.Store.show.Goals as goal

pub returns-clause-answer : goal.returns-clause-answer
unfolding session_of
returns-clause-answer g c =
    subst (λ (a : StoreState). error_of c.bytes.result ≡ bytes_refusal c.args.chunk.now c.args.at (length c.args.out.now) (session_of a c.args.space.now).contexts) c.self.view_is c.bytes.ensures.answer

pub returns-clause-bytes : goal.returns-clause-bytes
unfolding session_of
returns-clause-bytes g c =
    subst (λ (a : StoreState). OnOk c.bytes.result (c.bytes.new.out ≡ shown c.args.chunk.now c.args.at (length c.args.out.now) (session_of a c.args.space.now).contexts)) c.self.view_is c.bytes.ensures.bytes
