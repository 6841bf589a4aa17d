-- Each turn takes out the first of what is still to go.
use Rattle.std.proofs.Common.{◌≢◌, ℕ, List, [], ◌∷◌, ◌++◌, map, arith, ap, refl, sym, ◌∙◌, subst, append_assoc}
use Rattle.std.proofs.lemmas.Bool.{both_ways}
use Rattle.pgs_step.specs.declared.events.What.TheVariants.{OwnerGone}
use Rattle.forest.specs.Forest.{Forest, Once, has, children, removed}
use Rattle.forest.specs.Walk.{lead, follows, order_at}
use Rattle.forest.proofs.Trees.{removed_has, has_of_removed}
use Rattle.owner_core.specs.Owners.{Roomy}
use Rattle.owner_core.proofs.Gone.{takes, bare, order_bare, stays_apart}
use Rattle.owner_core.proofs.discard_tree.discard_tree.Goals as goal
use Rattle.std.proofs.lemmas.Bool.Decides.{nat_tests}

pub loop-current-init : goal.loop-current-init
loop-current-init g c = grind (arith, nat_tests, c.first_leaf-current.ensures.once, c.first_leaf-current.ensures.stands, c.requires, c.first_leaf-current.ensures.placed, c.first_leaf-current.ensures.number)

pub following-next-requires-clause-below : goal.following-next-requires-clause-below
following-next-requires-clause-below g c = grind (arith, nat_tests, takes c.args.owner.number c.loop-current.current.number (follows c.loop-current.current.number c.args.owner.number (children c.args.owner.number c.loop-current.nodes.forest)) c.loop-current.nodes.forest c.loop-current.invariant.once c.loop-current.invariant.stands c.loop-current.invariant.first, c.loop-current.invariant, c.loop-current.invariant.once, c.loop-current.invariant.stands, c.loop-current.invariant.first)

pub remove-requires-clause-leaf : goal.remove-requires-clause-leaf
remove-requires-clause-leaf g c = grind (arith, nat_tests, takes c.args.owner.number c.loop-current.current.number (follows c.loop-current.current.number c.args.owner.number (children c.args.owner.number c.loop-current.nodes.forest)) c.loop-current.nodes.forest c.loop-current.invariant.once c.loop-current.invariant.stands c.loop-current.invariant.first, c.loop-current.invariant, c.loop-current.invariant.once, c.loop-current.invariant.stands, c.loop-current.invariant.first)

pub loop-current-smaller : goal.loop-current-smaller
loop-current-smaller g c = grind (arith, nat_tests, takes c.args.owner.number c.loop-current.current.number (follows c.loop-current.current.number c.args.owner.number (children c.args.owner.number c.loop-current.nodes.forest)) c.loop-current.nodes.forest c.loop-current.invariant.once c.loop-current.invariant.stands c.loop-current.invariant.first, c.loop-current.invariant, c.loop-current.invariant.once, c.loop-current.invariant.stands, c.loop-current.invariant.first, c.remove.ensures.forest)

pub loop-current-preserved : goal.loop-current-preserved
loop-current-preserved g c =
    let inv = c.loop-current.invariant in
    let n0 = c.args.owner.number in
    let cur = c.loop-current.current.number in
    let t = c.loop-current.nodes.forest in
    let next = c.following-next.result.number in
    let ne : cur ≢ n0 = λ e. omega arith in
    let w = takes n0 cur next t inv.once inv.stands inv.first ne c.following-next.ensures.number in
    let forest = c.remove.ensures.forest in
    let so_far = inv.done in
    record {
      once = subst (λ (x : Forest Roomy). Once x) (sym forest) w.once;
      stands = ap (λ (x : Forest Roomy). has n0 x) forest ∙ w.stands;
      owner = c.remove.ensures.stays n0 (λ z. ne (sym z)) ∙ inv.owner;
      placed = c.remove.ensures.stays next w.other ∙ c.following-next.ensures.placed;
      first = w.next_is ∙ ap (λ (x : Forest Roomy). lead n0 (children n0 x)) (sym forest);
      rooms = ap (λ (x : Forest Roomy). removed n0 x) forest ∙ w.left ∙ inv.rooms;
      stays = λ other h.
          c.remove.ensures.stays other (stays_apart other n0 cur t inv.once inv.stands w.inside (ap (λ (x : Forest Roomy). has other x) inv.rooms ∙ h)) ∙ inv.stays other h;
      none_new = λ other h. inv.none_new other (has_of_removed other cur c.loop-current.nodes.places (ap (λ (x : Forest ℕ). has other x) (sym c.remove.ensures.places) ∙ h));
      done = (
        so_far.0 ++ OwnerGone cur ∷ [],
        g.met.E.Emit.emits_more _ _ _ _ _ _ so_far.1 c.emit.ensures.emitted refl,
        append_assoc so_far.0 (OwnerGone cur ∷ []) (map (λ n. OwnerGone n) (order_at n0 c.remove.new.self.forest))
            ∙ ap (λ (x : Forest Roomy). so_far.0 ++ (OwnerGone cur ∷ map (λ n. OwnerGone n) (order_at n0 x))) forest
            ∙ ap (λ (ns : List ℕ). so_far.0 ++ map (λ n. OwnerGone n) ns) (sym w.order) ∙ so_far.2,
      );
    }

pub remove-requires-2-clause-leaf : goal.remove-requires-2-clause-leaf
remove-requires-2-clause-leaf g c = grind (arith, nat_tests, bare c.args.owner.number c.loop-current.current.number c.loop-current.nodes.forest c.loop-current.invariant.once c.loop-current.invariant.stands c.loop-current.invariant.first, c.loop-current.invariant, c.loop-current.invariant.once, c.loop-current.invariant.stands, c.loop-current.invariant.first)

pub returns-clause-stays : goal.returns-clause-stays
returns-clause-stays g c other h = grind (arith, nat_tests, both_ways (has c.args.owner.number (removed c.args.owner.number c.loop-current.nodes.forest)) (removed_has c.args.owner.number c.loop-current.nodes.forest c.loop-current.invariant.once c.loop-current.invariant.stands), removed_has c.args.owner.number c.loop-current.nodes.forest c.loop-current.invariant.once c.loop-current.invariant.stands, c.loop-current.invariant, c.remove-2.ensures.stays, c.loop-current.invariant.once, c.loop-current.invariant.stands, c.loop-current.invariant.rooms, c.loop-current.invariant.stays)

pub returns-clause-none_new : goal.returns-clause-none_new
returns-clause-none_new g c other h = grind (arith, nat_tests, has_of_removed other c.args.owner.number c.loop-current.nodes.places, c.loop-current.invariant.none_new, c.remove-2.ensures.places)

pub returns-clause-emits : goal.returns-clause-emits
returns-clause-emits g c = grind (arith, nat_tests, bare c.args.owner.number c.loop-current.current.number c.loop-current.nodes.forest c.loop-current.invariant.once c.loop-current.invariant.stands c.loop-current.invariant.first, order_bare c.args.owner.number c.loop-current.nodes.forest, c.loop-current.invariant, c.loop-current.invariant.once, c.loop-current.invariant.stands, c.loop-current.invariant.first, c.loop-current.invariant.done.1, c.emit-2.ensures.emitted, c.loop-current.invariant.done.0, c.loop-current.invariant.done.2)
