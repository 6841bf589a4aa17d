-- Where there is a portal of that name it ends, else nothing is done.
use Rattle.session_ends.proofs.Base.{◌≡◌, Some, refl, sym, ap, ◌∙◌}
use Rattle.session_ends.proofs.Words.{portal_named}
use Rattle.session_ends.proofs.Lemmas.{acted_nowhere, at_none, at_some, named_title}
use Rattle.session_ends.proofs.portals.end_portal.Goals as goal

pub end_found-requires-clause-there : goal.end_found-requires-clause-there
end_found-requires-clause-there g c =
    let e : portal_named c.args.name.now c.args.store.now.portals ≡ Some c.in-Some.portal = sym c.found.ensures.portal ∙ c.in-Some.is in
    ap (λ n. portal_named n c.args.store.now.portals) (named_title c.args.name.now c.args.store.now.portals c.in-Some.portal e) ∙ e

pub returns-in-Some-clause-acted : goal.returns-in-Some-clause-acted
returns-in-Some-clause-acted g c =
    at_some c.args.name.now c.in-Some.portal c.args.store.now c.end_found.new.store c.args.space.now c.end_found.new.space c.args.shelf.now c.end_found.new.shelf c.args.commons.now c.end_found.new.commons (λ events. g.E.Emit.emits c.args.out.now events c.end_found.new.out)
    (sym c.found.ensures.portal ∙ c.in-Some.is) c.end_found.ensures.acted

pub returns-in_default-clause-acted : goal.returns-in_default-clause-acted
returns-in_default-clause-acted g c =
    at_none c.args.name.now c.args.store.now c.args.space.now c.args.shelf.now c.args.commons.now (λ events. g.E.Emit.emits c.args.out.now events c.args.out.now) (sym c.found.ensures.portal ∙ c.in_default.is)
    (acted_nowhere _ (λ o events p. g.E.Emit.emits o events p) g.met.E.Emit.emits_none (λ o p q xs ys h k. g.met.E.Emit.emits_more _ _ _ _ _ _ h k refl) c.args.store.now c.args.space.now c.args.shelf.now c.args.commons.now c.args.out.now)
