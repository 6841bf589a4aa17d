use Rattle.portal_store.proofs.Base.{sym, ◌∙◌}
use Rattle.portal_store.proofs.Lemmas.{named_by_place, named_nowhere}
use Rattle.portal_store.proofs.portals.Portals.get.Goals as goal

pub returns-in-Some : goal.returns-in-Some
returns-in-Some c = c.at.ensures ∙ sym (named_by_place c.args.name.now c.args.self.now c.in-Some.place (sym c.place_of.ensures ∙ c.in-Some.is))

pub returns-in-None : goal.returns-in-None
returns-in-None c = sym (named_nowhere c.args.name.now c.args.self.now (sym c.place_of.ensures ∙ c.in-None.is))
