use Rattle.portal_store.proofs.Base.{◌<◌, length, sym, ap, subst, ◌∙◌, refl}
use Rattle.portal_store.proofs.Words.{place_named}
use Rattle.portal_store.proofs.Lemmas.{place_here}
use Rattle.portal_store.proofs.portals.Portals.is_at.Goals as goal

pub returns-in-Some : goal.returns-in-Some
returns-in-Some c named =
    let within : c.args.place < length c.self.inside.portals.items = subst (λ n. c.args.place < n) c.self.inside.portals.ok.0 (c.in-Some.ensures.variant.0 refl) in
    ap (place_named c.args.name.now) (sym c.self.view_is)
    ∙ place_here c.args.name.now c.self.inside.portals.items c.args.place c.in-Some.portal.now c.self.invariant.are.distinct within c.in-Some.ensures.lookup (sym c.eq.ensures.value ∙ named)
