-- What the portal has lies where its id says.
use Rattle.session_ends.proofs.Base.{sym, ap, ◌∙◌}
use Rattle.session_ends.proofs.Words.{portal_named, named_by_place, StoreState}
use Rattle.session_ends.proofs.Lemmas.{place_in, context_in, expr_in, owner_in, scan_in, session_named}
use Rattle.session_ends.proofs.changing.portal_at.Goals as goal

pub returns-clause-portal : goal.returns-clause-portal
returns-clause-portal g c name at =
    c.at.ensures
    ∙ sym (named_by_place name c.store.inside.portals c.args.place (place_in _ _ _ _ _ c.store.view_is name c.args.place at))
    ∙ ap (λ (a : StoreState). portal_named name a.portals) c.store.view_is

pub returns-clause-session : goal.returns-clause-session
returns-clause-session g c name at s = session_named name _ c.args.store.now s (returns-clause-portal g c name at)

pub returns-clause-context : goal.returns-clause-context
returns-clause-context g c name at s x commons stands =
    context_in _ _ _ _ c.store.invariant _ c.store.view_is s x commons stands name _ (c.at.ensures ∙ sym (named_by_place name c.store.inside.portals c.args.place (place_in _ _ _ _ _ c.store.view_is name c.args.place at)))

pub returns-clause-expr : goal.returns-clause-expr
returns-clause-expr g c name at s x commons stands =
    expr_in _ _ _ _ c.store.invariant _ c.store.view_is s x commons stands name _ (c.at.ensures ∙ sym (named_by_place name c.store.inside.portals c.args.place (place_in _ _ _ _ _ c.store.view_is name c.args.place at)))

pub returns-clause-owner : goal.returns-clause-owner
returns-clause-owner g c name at s x commons stands =
    owner_in _ _ _ _ c.store.invariant _ c.store.view_is s x commons stands name _ (c.at.ensures ∙ sym (named_by_place name c.store.inside.portals c.args.place (place_in _ _ _ _ _ c.store.view_is name c.args.place at)))

pub returns-clause-scan : goal.returns-clause-scan
returns-clause-scan g c name at = scan_in _ _ _ _ c.store.invariant _ c.store.view_is name _ (c.at.ensures ∙ sym (named_by_place name c.store.inside.portals c.args.place (place_in _ _ _ _ _ c.store.view_is name c.args.place at)))
