-- A level's context is there where the session stands, and then it lies where its id says.
use Rattle.session_store.proofs.Words.{IfSome, sym, ap, ◌∙◌, subst, option_copied, IsLive, StoreState}
use Rattle.session_store.proofs.Lemmas.{level_live, there_in}
use Rattle.session_store.proofs.store.Store.level_context.Goals as goal

pub returns-in-Some-clause-live : goal.returns-in-Some-clause-live
returns-in-Some-clause-live g c s x commons stands =
    subst (λ (a : StoreState). IfSome c.in-Some.found.now.context (IsLive a.tree)) c.self.view_is
    (level_live _ _ _ _ c.args.level c.in-Some.found.now c.self.invariant (there_in _ _ _ _ _ c.self.view_is s x commons stands) (sym c.at.ensures ∙ ap option_copied c.in-Some.is))
