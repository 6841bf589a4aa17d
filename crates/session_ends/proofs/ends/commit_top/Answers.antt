-- The parts of a commit are what the rules say.
use Rattle.session_ends.proofs.Base.{◌≡◌, ℕ, true, List, [], ◌∷◌, ◌++◌, length, refl, sym, ap, ◌∙◌, subst, arith, ◌==◌}
use Rattle.session_ends.proofs.Words.{CommonState, stack_popped, Level, StoreState, level_state, levels_of, none_left, Keeps, ends, levels_are, go_stack, keeps_owners, owners_after, placed_owners, MayLeave}
use Rattle.session_ends.proofs.Lemmas.{begins_in, commit_parts, left_top, released_as, alone, asked_then, moves_then, stacked_leaves}
use Rattle.session_ends.proofs.ends.commit_top.Goals as goal

pub close_portals-requires-clause-ending : goal.close_portals-requires-clause-ending
close_portals-requires-clause-ending g c =
    let one = c.requires.level in
    begins_in none_left c.args.store.now c.args.space.now c.args.shelf.now c.args.commons.now c.requires.stands (omega (arith, one))

pub release_level-requires-clause-keeps : goal.release_level-requires-clause-keeps
release_level-requires-clause-keeps g c = c.close_portals.ensures.out.keeps

pub release_level-requires-clause-ending : goal.release_level-requires-clause-ending
release_level-requires-clause-ending g c = (none_left, c.close_portals.ensures.ending)

pub release_level-requires-clause-level : goal.release_level-requires-clause-level
release_level-requires-clause-level g c =
    let one : length c.close_portals.new.store.levels ≡ 1 = ap length c.close_portals.ensures.out.levels ∙ c.requires.level in
    omega (arith, one)

pub invariant_of-store : goal.invariant_of-store
invariant_of-store g c = placed_owners _ _ _ _ _ c.store.invariant (go_stack _ _ c.pop_from.ensures.stack_alone)

pub leave_level-requires : goal.leave_level-requires
leave_level-requires g c =
    let b : StoreState = record { tree = c.store.inside.tree; owners = c.store.inside.owners; levels = c.store.inside.levels; portals = c.store.inside.portals } in
    record {
      keeps = keeps_owners b c.pop_from.new.self c.release_level.new.space (subst (λ (v : StoreState). Keeps v c.release_level.new.space) (sym c.store.view_is) c.release_level.ensures.alone.keeps);
      free = stacked_leaves b c.pop_from.new.self c.release_level.new.space c.release_level.new.shelf c.pop_from.ensures.stack_alone
          (subst (λ (v : StoreState). MayLeave v c.release_level.new.space c.release_level.new.shelf) (sym c.store.view_is) c.release_level.ensures.free);
      level =
          let same : c.store.inside.levels ≡ c.args.store.now.levels = ap (λ (v : StoreState). v.levels) c.store.view_is ∙ c.release_level.ensures.alone.levels ∙ c.close_portals.ensures.out.levels in
          let one : length c.store.inside.levels ≡ 1 = ap length same ∙ c.requires.level in
          omega (arith, one);
    }

pub returns-clause-acted : goal.returns-clause-acted
returns-clause-acted g c =
    let a : StoreState = c.args.store.now in
    let b : StoreState = c.release_level.new.store in
    let d : StoreState = record { tree = c.store.inside.tree; owners = c.pop_from.new.self; levels = c.store.inside.levels; portals = c.store.inside.portals } in
    let e : StoreState = c.leave_level.new.store in
    let s = c.args.space.now in
    let t = c.release_level.new.space in
    let u = c.leave_level.new.space in
    let x = c.args.shelf.now in
    let y = c.release_level.new.shelf in
    let z = c.leave_level.new.shelf in
    let m : CommonState = c.args.commons.now in
    let k : CommonState = c.release_level.new.commons in
    let same : d.levels ≡ a.levels = ap (λ (v : StoreState). v.levels) c.store.view_is ∙ c.release_level.ensures.alone.levels ∙ c.close_portals.ensures.out.levels in
    let one : length d.levels ≡ 1 = ap length same ∙ c.requires.level in
    let last = ends d.levels (omega (arith, one)) in
    let lone : levels_of d.levels ≡ level_state last.1.0 ∷ [] = ap levels_of (last.1.1 ∙ ap (λ (o : List Level). o ++ last.1.0 ∷ []) (alone d.levels last.0 last.1.0 last.1.1 one)) ∙ levels_are [] last.1.0 in
    let a1 : StoreState = c.close_portals.new.store in
    let h : CommonState = c.close_portals.new.commons in
    commit_parts _ (λ o events p. g.E.Emit.emits o events p) g.met.E.Emit.emits_none (λ o p q xs ys h k. g.met.E.Emit.emits_more _ _ _ _ _ _ h k refl)
    a a1 b d e s c.close_portals.new.space t u x c.close_portals.new.shelf y z m h k c.args.out.now c.emit.new.self c.close_portals.new.out c.release_level.new.out c.pop_from.new.out c.leave_level.new.out
    c.emit.ensures.emitted c.close_portals.ensures.acted
    (released_as a1 b c.close_portals.new.space t c.close_portals.new.shelf y h k (λ events. g.E.Emit.emits c.close_portals.new.out events c.release_level.new.out) true (length a1.levels == 1) true (ap (λ (n : ℕ). n == 1) (ap length c.close_portals.ensures.out.levels ∙ c.requires.level)) c.release_level.ensures.acted)
    (owners_after c.store.inside.tree c.store.inside.owners c.store.inside.levels c.store.inside.portals b c.store.view_is (stack_popped 1) c.pop_from.new.self t y k k (λ events. g.E.Emit.emits c.release_level.new.out events c.pop_from.new.out) (c.pop_from.ensures.acted k) (c.pop_from.ensures.balances k))
    (left_top d e (level_state last.1.0) t u y z k k (λ events. g.E.Emit.emits c.pop_from.new.out events c.leave_level.new.out) lone (c.leave_level.ensures.acted k))

pub returns-clause-moves : goal.returns-clause-moves
returns-clause-moves g c =
    moves_then c.args.store.now.tree c.close_portals.new.store.tree c.close_portals.new.store.tree c.leave_level.new.store.tree c.args.space.now c.close_portals.new.space c.leave_level.new.space c.close_portals.ensures.out.moves refl
    (moves_then c.close_portals.new.store.tree c.release_level.new.store.tree c.store.inside.tree c.leave_level.new.store.tree c.close_portals.new.space c.release_level.new.space c.leave_level.new.space c.release_level.ensures.alone.moves (ap (λ (v : StoreState). v.tree) c.store.view_is) c.leave_level.ensures.moves)

pub returns-clause-asked : goal.returns-clause-asked
returns-clause-asked g c =
    asked_then c.args.store.now.tree c.close_portals.new.store.tree c.close_portals.new.store.tree c.args.space.now c.close_portals.new.space c.leave_level.new.space c.close_portals.ensures.out.asked c.close_portals.ensures.out.moves.account refl
    (asked_then c.close_portals.new.store.tree c.release_level.new.store.tree c.store.inside.tree c.close_portals.new.space c.release_level.new.space c.leave_level.new.space c.release_level.ensures.asked c.release_level.ensures.alone.moves.account (ap (λ (v : StoreState). v.tree) c.store.view_is) c.leave_level.ensures.asked)

pub returns-clause-levels : goal.returns-clause-levels
returns-clause-levels g c =
    let same : c.store.inside.levels ≡ c.args.store.now.levels = ap (λ (v : StoreState). v.levels) c.store.view_is ∙ c.release_level.ensures.alone.levels ∙ c.close_portals.ensures.out.levels in
    alone c.store.inside.levels c.leave_level.new.store.levels c.leave_level.ensures.levels.0 c.leave_level.ensures.levels.1 (ap length same ∙ c.requires.level)
