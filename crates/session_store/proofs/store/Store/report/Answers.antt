-- What the tree says is what the session's contexts hold.
use Rattle.session_store.proofs.Words.{subst, report, StoreState, session_of}
use Rattle.session_store.proofs.store.Store.report.Goals as goal

pub returns : goal.returns
unfolding session_of
returns g c s = subst (λ (a : StoreState). g.E.Emit.emits c.args.out.now (report (session_of a s).contexts) c.report.new.out) c.self.view_is (c.report.ensures s)
