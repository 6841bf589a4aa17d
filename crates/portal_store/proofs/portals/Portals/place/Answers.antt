use Rattle.portal_store.proofs.Base.{sym, ◌∙◌}
use Rattle.portal_store.proofs.Lemmas.{not_nowhere}
use Rattle.portal_store.proofs.portals.Portals.place.Goals as goal

pub unreachable-requires : goal.unreachable-requires
unreachable-requires c = absurd (not_nowhere c.args.name.now c.args.self.now c.requires (sym c.place_of.ensures ∙ c.in-None.is))
