use Rattle.portal_store.proofs.Base.{◌∙◌, ap, sym, slice_set, map_over_more}
use Rattle.portal_store.proofs.Words.{to_parent}
use Rattle.portal_store.proofs.portals.to_parent.Goals as goal

pub loop-portal-preserved : goal.loop-portal-preserved
loop-portal-preserved c =
    ap (λ p. slice_set c.loop-portal.portals c.loop-portal.portal-index p) (c.to_parent.ensures.portal ∙ ap (to_parent c.args.level) (sym c.portal-item.is))
    ∙ map_over_more (to_parent c.args.level) c.args.portals.now c.loop-portal.portals c.loop-portal.portal-index c.portal-item.result c.loop-portal-test.true c.loop-portal.invariant c.portal-item.is
