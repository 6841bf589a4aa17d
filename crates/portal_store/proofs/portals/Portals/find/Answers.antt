use Rattle.portal_store.proofs.Base.{sym, ap, ◌∙◌}
use Rattle.portal_store.proofs.Words.{knows, place_named}
use Rattle.portal_store.proofs.Lemmas.{place_unknown}
use Rattle.portal_store.proofs.portals.Portals.find.Goals as goal

pub returns-in-None : goal.returns-in-None
returns-in-None c = sym (ap (place_named c.args.name.now) (sym c.self.view_is) ∙ place_unknown c.args.name.now c.self.inside.portals.items (knows c.self.inside.places) (c.guess.ensures c.in-None.is) c.self.invariant.known)
