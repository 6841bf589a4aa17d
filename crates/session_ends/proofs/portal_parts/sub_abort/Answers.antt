use Rattle.session_ends.proofs.Base.{◌≡◌, ◌-◌, ◌<◌, ◌≤◌, arith, length, sym, subst}
use Rattle.session_ends.proofs.Words.{StoreState}
use Rattle.session_ends.proofs.Lemmas.{all_aborted, placed_portals}
use Rattle.session_ends.proofs.portal_parts.sub_abort.Goals as goal

pub invariant_of-store : goal.invariant_of-store
invariant_of-store g c =
    let some = c.requires.some in
    let left : c.args.left ≤ length c.store.inside.portals = subst (λ (v : StoreState). c.args.left ≤ length v.portals) (sym c.store.view_is) c.requires.left in
    let long : c.len.result ≡ length c.store.inside.portals = c.len.ensures.length in
    let within : c.len.result - c.args.left < length c.store.inside.portals = omega (arith, some, left, long) in
    placed_portals c.store.inside.tree c.store.inside.owners c.store.inside.levels c.store.inside.portals c.sub_abort.new.self c.store.invariant
    (all_aborted c.store.inside.tree c.store.inside.owners c.args.level c.store.inside.portals c.sub_abort.new.self _ c.sub_abort.ensures.portal within c.store.invariant.portals)
