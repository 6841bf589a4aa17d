use Rattle.session_ends.proofs.Base.{Option, IfSome, sym, ◌∙◌, subst}
use Rattle.session_ends.proofs.Words.{Portal, has_name, StoreState, PortalLies}
use Rattle.session_ends.proofs.Lemmas.{found_all}
use Rattle.session_ends.proofs.portal_parts.found.Goals as goal

pub returns-clause-lies : goal.returns-clause-lies
returns-clause-lies g c =
    subst (λ (v : StoreState). IfSome c.copied.result (PortalLies v.tree v.owners)) c.store.view_is
    (subst (λ (o : Option Portal). IfSome o (PortalLies c.store.inside.tree c.store.inside.owners)) (sym (c.copied.ensures ∙ c.get.ensures))
    (found_all (PortalLies c.store.inside.tree c.store.inside.owners) (has_name c.args.name.now) c.store.inside.portals c.store.invariant.portals))
