use Rattle.portal_store.proofs.Base.{◌<◌, List, All, drop, subst}
use Rattle.portal_store.proofs.Words.{Portal}
use Rattle.portal_store.proofs.Lemmas.{all_below}
use Rattle.portal_store.proofs.portals.Portals.touched.Goals as goal

pub returns-clause-others : goal.returns-clause-others
returns-clause-others c =
    subst (λ (ps : List Portal). All (λ (p : Portal). (p.created < c.args.level) × (p.active < c.args.level)) (drop c.touched.result ps)) c.self.view_is
    (all_below c.self.inside.portals.items c.self.inside.reach.levels.items c.args.level c.touched.result c.self.invariant.reach c.touched.ensures.others)
