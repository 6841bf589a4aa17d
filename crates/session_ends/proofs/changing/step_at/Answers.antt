-- The scan takes its next step.
use Rattle.session_ends.proofs.Base.{◌≡◌, ◌∷◌, Option, IfSome, refl, sym, ap, ◌∙◌, subst}
use Rattle.session_ends.proofs.Words.{IsScan, rest, taken, coming, Portal, changed, portal_named, named_by_place, place_within, OpenPortal, StoreState}
use Rattle.session_ends.proofs.Lemmas.{becomes_after, place_in, placed_changed, scan_in}
use Rattle.session_ends.proofs.changing.step_at.Goals as goal

pub step_at-requires-clause-there : goal.step_at-requires-clause-there
step_at-requires-clause-there g c = place_within c.requires.there.0 c.store.inside.portals c.args.place (place_in _ _ _ _ _ c.store.view_is c.requires.there.0 c.args.place c.requires.there.1)

pub step_at-requires-clause-scan : goal.step_at-requires-clause-scan
step_at-requires-clause-scan g c =
    scan_in _ _ _ _ c.store.invariant _ c.store.view_is c.requires.there.0 _
    (sym (named_by_place c.requires.there.0 c.store.inside.portals c.args.place (place_in _ _ _ _ _ c.store.view_is c.requires.there.0 c.args.place c.requires.there.1)))

pub invariant_of-store : goal.invariant_of-store
invariant_of-store g c =
    let name = c.requires.there.0 in
    let at = place_in _ _ _ _ _ c.store.view_is c.requires.there.0 c.args.place c.requires.there.1 in
    placed_changed _ _ _ c.store.inside.portals c.step_at.new.self name (λ (p : Portal). record p { scan = taken c.step_at.result p.scan }) c.store.invariant
    (λ p e lies. record {
      context = lies.context;
      expr = lies.expr;
      owner = lies.owner;
      scan = subst (λ (o : Option Portal). IfSome o (λ q. IsScan (taken c.step_at.result q.scan))) (sym (named_by_place name c.store.inside.portals c.args.place at) ∙ e) c.step_at.ensures.scan;
    }) (c.step_at.ensures.portals name at)

pub returns-clause-step : goal.returns-clause-step
returns-clause-step g c name at =
    subst (λ (v : StoreState). IfSome (portal_named name v.portals) (λ p. coming c.args.begins p.scan ≡ c.step_at.result ∷ rest c.step_at.result (taken c.step_at.result p.scan))) c.store.view_is
    (subst (λ (o : Option Portal). IfSome o (λ p. coming c.args.begins p.scan ≡ c.step_at.result ∷ rest c.step_at.result (taken c.step_at.result p.scan)))
    (sym (named_by_place name c.store.inside.portals c.args.place (place_in _ _ _ _ _ c.store.view_is name c.args.place at))) c.step_at.ensures.step)

pub returns-clause-acted : goal.returns-clause-acted
returns-clause-acted g c name at s x commons =
    becomes_after _ _ _ _ _ c.store.view_is c.step_at.new.self name (λ (p : Portal). record p { scan = taken c.step_at.result p.scan }) (λ (p : OpenPortal). record p { scan = taken c.step_at.result p.scan }) s x commons
    c.step_at.ensures.distinct (λ p. refl) (c.step_at.ensures.portals name (place_in _ _ _ _ _ c.store.view_is name c.args.place at))

pub returns-clause-portals : goal.returns-clause-portals
returns-clause-portals g c name at =
    c.step_at.ensures.portals name (place_in _ _ _ _ _ c.store.view_is name c.args.place at)
    ∙ ap (λ (v : StoreState). changed name (λ (p : Portal). record p { scan = taken c.step_at.result p.scan }) v.portals) c.store.view_is
