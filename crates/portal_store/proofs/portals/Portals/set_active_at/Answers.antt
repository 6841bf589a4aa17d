use Rattle.portal_store.proofs.Base.{List, ◌<◌, length, subst, sym}
use Rattle.portal_store.proofs.Words.{Portal, knows}
use Rattle.portal_store.proofs.Lemmas.{changed_at, IsKept_active}
use Rattle.portal_store.proofs.portals.Portals.set_active_at.Goals as goal

pub invariant_of-self : goal.invariant_of-self
invariant_of-self c =
    IsKept_active (knows c.self.inside.places) c.self.inside.reach.levels.items c.raise.new.self.levels.items c.self.inside.portals.items c.args.place c.args.active c.index_mut.result.now c.index_mut.ensures.value
    (subst (λ (ps : List Portal). c.args.place < length ps) (sym c.self.view_is) c.requires) c.raise.ensures c.self.invariant

pub returns-clause-portals : goal.returns-clause-portals
returns-clause-portals c name at = changed_at name c.self.inside.portals.items c.args.self.now c.args.place c.index_mut.result.now c.self.view_is at c.index_mut.ensures.value (λ (p : Portal). record p { active = c.args.active })
