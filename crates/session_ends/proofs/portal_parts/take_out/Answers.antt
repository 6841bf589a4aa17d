use Rattle.session_ends.proofs.Base.{List, All, sym, subst}
use Rattle.session_ends.proofs.Words.{Portal, PortalLies}
use Rattle.session_ends.proofs.Lemmas.{all_without, placed_portals}
use Rattle.session_ends.proofs.portal_parts.take_out.Goals as goal

pub invariant_of-store : goal.invariant_of-store
invariant_of-store g c =
    placed_portals c.store.inside.tree c.store.inside.owners c.store.inside.levels c.store.inside.portals c.take_out.new.self c.store.invariant
    (subst (λ (ps : List Portal). All (PortalLies c.store.inside.tree c.store.inside.owners) ps) (sym c.take_out.ensures.others)
    (all_without (PortalLies c.store.inside.tree c.store.inside.owners) c.args.name.now c.store.inside.portals c.store.invariant.portals))
