-- What the portal has lies where its id says.
use Rattle.session_ends.proofs.Base.{ap, ◌∙◌}
use Rattle.session_ends.proofs.Words.{portal_named, StoreState}
use Rattle.session_ends.proofs.Lemmas.{context_in, expr_in, owner_in, scan_in, session_named}
use Rattle.session_ends.proofs.changing.portal_named.Goals as goal

pub returns-clause-session : goal.returns-clause-session
returns-clause-session g c s = session_named c.args.name.now _ c.args.store.now s (c.get.ensures ∙ ap (λ (a : StoreState). portal_named c.args.name.now a.portals) c.store.view_is)

pub returns-clause-context : goal.returns-clause-context
returns-clause-context g c s x commons stands = context_in _ _ _ _ c.store.invariant _ c.store.view_is s x commons stands c.args.name.now _ c.get.ensures

pub returns-clause-expr : goal.returns-clause-expr
returns-clause-expr g c s x commons stands = expr_in _ _ _ _ c.store.invariant _ c.store.view_is s x commons stands c.args.name.now _ c.get.ensures

pub returns-clause-owner : goal.returns-clause-owner
returns-clause-owner g c s x commons stands = owner_in _ _ _ _ c.store.invariant _ c.store.view_is s x commons stands c.args.name.now _ c.get.ensures

pub returns-clause-scan : goal.returns-clause-scan
returns-clause-scan g c = scan_in _ _ _ _ c.store.invariant _ c.store.view_is c.args.name.now _ c.get.ensures
