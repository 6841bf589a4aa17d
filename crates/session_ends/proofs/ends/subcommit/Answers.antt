-- The parts of a commit into the level above are what the rules say.
use Rattle.session_ends.proofs.Base.{◌≡◌, ◌<◌, true, false, [], length, refl, sym, ap, ◌∙◌, subst, arith, ◌==◌, ne_eqb}
use Rattle.session_ends.proofs.Words.{CommonState, stack_lowered, StoreState, levels_of, serves_still, levels_long, left_by, Merges, Keeps, go_stack, keeps_owners, owners_after, placed_owners, MayLeave}
use Rattle.session_ends.proofs.Lemmas.{begins_in, merges_so, acted_quiet, merge_parts, released_as, asked_then, moves_then, stacked_leaves}
use Rattle.session_ends.proofs.ends.subcommit.Goals as goal

pub owner_above-above-requires-clause-stands : goal.owner_above-above-requires-clause-stands
owner_above-above-requires-clause-stands g c = (c.args.space.now, (c.args.shelf.now, (c.args.commons.now, c.requires.stands)))

pub settle_portals-requires-clause-level : goal.settle_portals-requires-clause-level
settle_portals-requires-clause-level g c = sym c.depth-number.ensures.depth

pub settle_portals-requires-clause-so : goal.settle_portals-requires-clause-so
settle_portals-requires-clause-so g c =
    let e = begins_in (left_by (Merges c.owner_above-above.result)) c.args.store.now c.args.space.now c.args.shelf.now c.args.commons.now c.requires.stands (let more = c.requires.level in omega (arith, more)) in
    let more = c.requires.level in
    merges_so c.owner_above-above.result (levels_of c.args.store.now.levels) e.level e.above e.are (omega (arith, more, levels_long c.args.store.now.levels)) c.owner_above-above.ensures.number

pub settle_portals-requires-clause-to : goal.settle_portals-requires-clause-to
settle_portals-requires-clause-to g c = c.owner_above-above.ensures.live

pub settle_portals-requires-clause-ending : goal.settle_portals-requires-clause-ending
settle_portals-requires-clause-ending g c = (c.args.commons.now, begins_in (left_by (Merges c.owner_above-above.result)) c.args.store.now c.args.space.now c.args.shelf.now c.args.commons.now c.requires.stands (let more = c.requires.level in omega (arith, more)))

pub release_level-requires : goal.release_level-requires
release_level-requires g c = record {
  keeps = c.settle_portals.ensures.out.keeps;
  ending = (left_by (Merges c.owner_above-above.result), c.settle_portals.ensures.ending c.args.commons.now (begins_in (left_by (Merges c.owner_above-above.result)) c.args.store.now c.args.space.now c.args.shelf.now c.args.commons.now c.requires.stands (let more = c.requires.level in omega (arith, more))));
  serves = serves_still c.args.store.now.owners c.settle_portals.new.store.owners c.args.commons.now c.args.commons.now c.requires.serves (c.settle_portals.ensures.acted c.args.commons.now).balances;
  level =
      let more = c.requires.level in
      omega (arith, more, ap length c.settle_portals.ensures.out.levels);
}

pub invariant_of-store : goal.invariant_of-store
invariant_of-store g c = placed_owners _ _ _ _ _ c.store.invariant (go_stack _ _ c.lower_stack.ensures.stack_alone)

pub lower_stack-requires : goal.lower_stack-requires
lower_stack-requires g c = let more = c.requires.level in let n = c.depth-number.ensures.depth in omega (arith, more, n)

pub leave_level-requires : goal.leave_level-requires
leave_level-requires g c =
    let b : StoreState = record { tree = c.store.inside.tree; owners = c.store.inside.owners; levels = c.store.inside.levels; portals = c.store.inside.portals } in
    record {
      keeps = keeps_owners b c.lower_stack.new.self c.release_level.new.space (subst (λ (v : StoreState). Keeps v c.release_level.new.space) (sym c.store.view_is) c.release_level.ensures.alone.keeps);
      free = stacked_leaves b c.lower_stack.new.self c.release_level.new.space c.release_level.new.shelf c.lower_stack.ensures.stack_alone
          (subst (λ (v : StoreState). MayLeave v c.release_level.new.space c.release_level.new.shelf) (sym c.store.view_is) c.release_level.ensures.free);
      level =
          let same : length c.store.inside.levels ≡ length c.args.store.now.levels = ap length (ap (λ (v : StoreState). v.levels) c.store.view_is ∙ c.release_level.ensures.alone.levels ∙ c.settle_portals.ensures.out.levels) in
          let more = c.requires.level in
          omega (arith, same, more);
    }

pub returns-clause-acted : goal.returns-clause-acted
returns-clause-acted g c =
    let a : StoreState = c.args.store.now in
    let b : StoreState = c.release_level.new.store in
    let d : StoreState = record { tree = c.store.inside.tree; owners = c.lower_stack.new.self; levels = c.store.inside.levels; portals = c.store.inside.portals } in
    let e : StoreState = c.leave_level.new.store in
    let s = c.args.space.now in
    let t = c.release_level.new.space in
    let u = c.leave_level.new.space in
    let x = c.args.shelf.now in
    let y = c.release_level.new.shelf in
    let z = c.leave_level.new.shelf in
    let m : CommonState = c.args.commons.now in
    let k : CommonState = c.release_level.new.commons in
    let more : 1 < length a.levels = c.requires.level in
    let a1 : StoreState = c.settle_portals.new.store in
    let r = c.settle_portals.new.space in
    let w = c.settle_portals.new.shelf in
    let off = ap length c.settle_portals.ensures.out.levels in
    merge_parts _ (λ o events p. g.E.Emit.emits o events p) g.met.E.Emit.emits_none (λ o p q xs ys h k. g.met.E.Emit.emits_more _ _ _ _ _ _ h k refl)
    a a1 b d e s r t u x w y z m k c.owner_above-above.result c.depth-number.result c.args.out.now c.emit.new.self c.settle_portals.new.out c.release_level.new.out c.leave_level.new.out c.depth-number.ensures.depth
    c.owner_above-above.ensures.number c.emit.ensures.emitted (c.settle_portals.ensures.acted m)
    (released_as a1 b r t w y m k (λ events. g.E.Emit.emits c.settle_portals.new.out events c.release_level.new.out) true (length a1.levels == 1) false (ne_eqb (length a1.levels) 1 (λ e. omega (arith, e, more, off))) c.release_level.ensures.acted)
    (acted_quiet _ (λ o events p. g.E.Emit.emits o events p) g.met.E.Emit.emits_none (λ o p q xs ys h k. g.met.E.Emit.emits_more _ _ _ _ _ _ h k refl) (stack_lowered c.depth-number.result) b d t t y y k k c.release_level.new.out
    (owners_after c.store.inside.tree c.store.inside.owners c.store.inside.levels c.store.inside.portals b c.store.view_is (stack_lowered c.depth-number.result) c.lower_stack.new.self t y k k (λ events. events ≡ []) (c.lower_stack.ensures.acted k) (c.lower_stack.ensures.balances k)))
    (c.leave_level.ensures.acted k)

pub returns-clause-moves : goal.returns-clause-moves
returns-clause-moves g c =
    moves_then c.args.store.now.tree c.settle_portals.new.store.tree c.settle_portals.new.store.tree c.leave_level.new.store.tree c.args.space.now c.settle_portals.new.space c.leave_level.new.space c.settle_portals.ensures.out.moves refl
    (moves_then c.settle_portals.new.store.tree c.release_level.new.store.tree c.store.inside.tree c.leave_level.new.store.tree c.settle_portals.new.space c.release_level.new.space c.leave_level.new.space c.release_level.ensures.alone.moves (ap (λ (v : StoreState). v.tree) c.store.view_is) c.leave_level.ensures.moves)

pub returns-clause-asked : goal.returns-clause-asked
returns-clause-asked g c =
    asked_then c.args.store.now.tree c.settle_portals.new.store.tree c.settle_portals.new.store.tree c.args.space.now c.settle_portals.new.space c.leave_level.new.space c.settle_portals.ensures.out.asked c.settle_portals.ensures.out.moves.account refl
    (asked_then c.settle_portals.new.store.tree c.release_level.new.store.tree c.store.inside.tree c.settle_portals.new.space c.release_level.new.space c.leave_level.new.space c.release_level.ensures.asked c.release_level.ensures.alone.moves.account (ap (λ (v : StoreState). v.tree) c.store.view_is) c.leave_level.ensures.asked)

pub returns-clause-levels : goal.returns-clause-levels
returns-clause-levels g c =
    let same : c.store.inside.levels ≡ c.args.store.now.levels = ap (λ (v : StoreState). v.levels) c.store.view_is ∙ c.release_level.ensures.alone.levels ∙ c.settle_portals.ensures.out.levels in
    (c.leave_level.ensures.levels.0, sym same ∙ c.leave_level.ensures.levels.1)
