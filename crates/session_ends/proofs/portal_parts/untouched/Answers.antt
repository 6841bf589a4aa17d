use Rattle.session_ends.proofs.Base.{◌≡◌, ◌-◌, ◌<◌, All, List, ap, arith, drop, length, subst, sym}
use Rattle.session_ends.proofs.Words.{Portal, StoreState, portals_of}
use Rattle.session_ends.proofs.Lemmas.{IsQuiet, quiet_states}
use Rattle.session_ends.proofs.portal_parts.untouched.Goals as goal

pub returns-clause-others : goal.returns-clause-others
returns-clause-others g c =
    let ps : List Portal = c.args.store.now.portals in
    let same : c.store.inside.portals ≡ ps = ap (λ (v : StoreState). v.portals) c.store.view_is in
    let count : length ps - (c.len.result - c.touched.result) ≡ c.touched.result = omega (arith, c.len.ensures.length, ap length same, c.touched.ensures.at_most) in
    subst (λ k. All (IsQuiet c.args.level) (drop k (portals_of ps))) (sym count)
    (quiet_states c.args.level c.touched.result ps (subst (λ (qs : List Portal). All (λ (p : Portal). (p.created < c.args.level) × (p.active < c.args.level)) (drop c.touched.result qs)) same c.touched.ensures.others))
