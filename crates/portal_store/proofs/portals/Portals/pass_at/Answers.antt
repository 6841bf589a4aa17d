use Rattle.portal_store.proofs.Base.{ap}
use Rattle.portal_store.proofs.Words.{Portal, knows}
use Rattle.portal_store.proofs.Lemmas.{passed_at, IsKept_set}
use Rattle.portal_store.proofs.portals.Portals.pass_at.Goals as goal

pub invariant_of-self : goal.invariant_of-self
invariant_of-self c =
    IsKept_set (knows c.self.inside.places) c.self.inside.reach.levels.items c.self.inside.portals.items c.args.i c.index_mut.result.now c.to_parent.new.self c.index_mut.ensures.value (ap (λ (p : Portal). p.name) c.to_parent.ensures.portal)
    c.to_parent.ensures.created c.to_parent.ensures.active c.self.invariant

pub returns : goal.returns
returns c = passed_at c.args.level c.args.i c.self.inside.portals.items c.args.self.now c.index_mut.result.now c.to_parent.new.self c.self.view_is c.requires.there c.index_mut.ensures.value c.to_parent.ensures.portal
