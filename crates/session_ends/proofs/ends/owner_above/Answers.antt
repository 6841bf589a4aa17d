use Rattle.session_ends.proofs.Base.{◌<◌, ◌-◌, Option, IfSome, length, sym, ap, ◌∙◌, subst, arith, drop, option_and_then}
use Rattle.session_ends.proofs.Words.{Level, level_at, first_of, owner_of, StoreState, levels_of, above_first, above_live, owner_number, stands_in, number_in}
use Rattle.session_owners.specs.ResourceState as owners
use Rattle.session_ends.proofs.ends.owner_above.Goals as goal

pub returns-in-Some-clause-number : goal.returns-in-Some-clause-number
returns-in-Some-clause-number g c =
    let more = c.requires.level in
    let a : StoreState = record { tree = c.store.inside.tree; owners = c.store.inside.owners; levels = c.store.inside.levels; portals = c.store.inside.portals } in
    let some : 0 < length a.levels = subst (λ (v : StoreState). 0 < length v.levels) (sym c.store.view_is) (omega (arith, more)) in
    ap (λ (o : Option Level). number_in (option_and_then (λ (level : Level). level.owner) o)) (sym c.in-Some.is ∙ c.level_above.ensures)
    ∙ sym (owner_number (level_at a.levels (length a.levels - 1))) ∙ ap owner_of (sym (above_first a.levels some)) ∙ ap (λ (v : StoreState). owner_of (first_of (drop 1 (levels_of v.levels)))) c.store.view_is

pub returns-in-None-clause-number : goal.returns-in-None-clause-number
returns-in-None-clause-number g c =
    let more = c.requires.level in
    let a : StoreState = record { tree = c.store.inside.tree; owners = c.store.inside.owners; levels = c.store.inside.levels; portals = c.store.inside.portals } in
    let some : 0 < length a.levels = subst (λ (v : StoreState). 0 < length v.levels) (sym c.store.view_is) (omega (arith, more)) in
    ap (λ (o : Option Level). number_in (option_and_then (λ (level : Level). level.owner) o)) (sym c.in-None.is ∙ c.level_above.ensures)
    ∙ sym (owner_number (level_at a.levels (length a.levels - 1))) ∙ ap owner_of (sym (above_first a.levels some)) ∙ ap (λ (v : StoreState). owner_of (first_of (drop 1 (levels_of v.levels)))) c.store.view_is

pub returns-in-Some-clause-live : goal.returns-in-Some-clause-live
returns-in-Some-clause-live g c =
    let a : StoreState = record { tree = c.store.inside.tree; owners = c.store.inside.owners; levels = c.store.inside.levels; portals = c.store.inside.portals } in
    let n = c.requires.stands in
    subst (λ (v : StoreState). IfSome c.in-Some.level.owner (owners.IsLive v.owners)) c.store.view_is
    (subst (λ (o : Option Level). IfSome (option_and_then (λ (level : Level). level.owner) o) (owners.IsLive a.owners)) c.in-Some.is
    (above_live a n.0 n.1.0 n.1.1.0 (length a.levels - 1) c.level_above.result c.store.invariant (stands_in _ _ _ _ _ c.store.view_is n.0 n.1.0 n.1.1.0 n.1.1.1) c.level_above.ensures))
