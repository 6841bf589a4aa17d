-- A level's owner is there where the session stands, and then it lies where its id says.
use Rattle.session_store.proofs.Words.{IfSome, sym, ap, ◌∙◌, subst, option_copied, StoreState}
use Rattle.session_store.proofs.Lemmas.{level_owner_live, stands_in}
use Rattle.session_owners.specs.ResourceState.{IsLive}
use Rattle.session_store.proofs.Owned.{have_owners}
use Rattle.session_store.proofs.store.Store.owner_at.Goals as goal

pub returns-in-Some-clause-live : goal.returns-in-Some-clause-live
returns-in-Some-clause-live g c s x commons stands =
    let a : StoreState = record { tree = c.self.inside.tree; owners = c.self.inside.owners; levels = c.self.inside.levels; portals = c.self.inside.portals } in
    subst (λ (v : StoreState). IfSome c.in-Some.found.now.owner (IsLive v.owners)) c.self.view_is
    (level_owner_live _ _ _ _ c.args.level c.in-Some.found.now c.self.invariant (have_owners a s x commons (stands_in _ _ _ _ _ c.self.view_is s x commons stands)) (sym c.at.ensures ∙ ap option_copied c.in-Some.is))
