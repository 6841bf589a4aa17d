use Rattle.session_ends.proofs.Base.{◌≡◌, ◌-◌, ◌<◌, ◌≤◌, arith, length, sym, subst}
use Rattle.session_ends.proofs.Words.{StoreState}
use Rattle.session_ends.proofs.Lemmas.{all_passed, placed_portals}
use Rattle.session_ends.proofs.portal_parts.pass.Goals as goal

pub invariant_of-store : goal.invariant_of-store
invariant_of-store g c =
    let some = c.requires.some in
    let left : c.args.left ≤ length c.store.inside.portals = subst (λ (v : StoreState). c.args.left ≤ length v.portals) (sym c.store.view_is) c.requires.left in
    let long : c.len.result ≡ length c.store.inside.portals = c.len.ensures.length in
    let within : c.len.result - c.args.left < length c.store.inside.portals = omega (arith, some, left, long) in
    placed_portals c.store.inside.tree c.store.inside.owners c.store.inside.levels c.store.inside.portals c.pass_at.new.self c.store.invariant
    (all_passed c.store.inside.tree c.store.inside.owners c.args.level c.store.inside.portals c.pass_at.new.self _ c.pass_at.ensures within c.store.invariant.portals)
