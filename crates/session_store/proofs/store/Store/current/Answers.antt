-- The current context is there where the session stands, and then it lies where its id says.
use Rattle.session_store.proofs.Words.{sym, subst, CtxId, IsLive, StoreState}
use Rattle.session_store.proofs.Lemmas.{there_in}
use Rattle.session_store.proofs.store.Store.current.Goals as goal

pub returns-clause-live : goal.returns-clause-live
returns-clause-live g c s x commons stands =
    let there = there_in _ _ _ _ _ c.self.view_is s x commons stands in
    subst (λ (a : StoreState). IsLive a.tree c.current.result) c.self.view_is
    (subst (λ (id : CtxId). IsLive c.self.inside.tree id) (sym c.current.ensures) (c.self.invariant.current there.current))
