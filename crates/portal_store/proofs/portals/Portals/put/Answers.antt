use Rattle.portal_store.proofs.Base.{ap, sym, ◌∙◌}
use Rattle.portal_store.proofs.Words.{Portal, knows, place_named}
use Rattle.portal_store.proofs.Lemmas.{changed_at, name_at, place_within, IsKept_raised}
use Rattle.portal_store.proofs.portals.Portals.put.Goals as goal

pub invariant_of-self : goal.invariant_of-self
invariant_of-self c =
    IsKept_raised (knows c.self.inside.places) c.self.inside.reach.levels.items c.raise.new.self.levels.items c.self.inside.portals.items c.place-place.result c.deeper-to.result c.index_mut.result.now c.args.portal c.index_mut.ensures.value
    (sym (name_at c.args.portal.name c.self.inside.portals.items c.args.self.now c.place-place.result c.index_mut.result.now c.self.view_is c.place-place.ensures c.index_mut.ensures.value))
    (place_within c.args.portal.name c.self.inside.portals.items c.place-place.result (ap (place_named c.args.portal.name) c.self.view_is ∙ c.place-place.ensures)) c.deeper-to.ensures.level c.deeper-to.ensures.other c.raise.ensures c.self.invariant

pub returns : goal.returns
returns c = changed_at c.args.portal.name c.self.inside.portals.items c.args.self.now c.place-place.result c.index_mut.result.now c.self.view_is c.place-place.ensures c.index_mut.ensures.value (λ (old : Portal). c.args.portal)
