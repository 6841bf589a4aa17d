-- The level aborts as the rules say, and it may go then.
use Rattle.session_ends.proofs.Base.{◌≡◌, ◌<◌, ℕ, false, List, length, refl, sym, ap, ◌∙◌, subst, ◌==◌}
use Rattle.session_ends.proofs.Words.{Asks, Space, IsLive, Moves, CommonState, Serves, Level, with_deepest, switched, stack_popped, StoreState, levels_of, portals_of, scene_of, OpenPortal, first_of, owner_of, serves_still, nowhere, left_by, Aborts, Acted, IsSilent, Keeps, ends, abort_there, go_stack, owners_after, placed_owners, stands_in}
use Rattle.session_ends.proofs.Lemmas.{IsShut, begins_in, keeps_with, aborts_so, shut_in, acted_quiet, abort_parts, released_as, settles, shuts, asked_then, moves_back, moves_then, marked, marked_acted, marked_freed, marked_placed, stands_off}
use Rattle.session_ends.proofs.ends.abort.Goals as goal

pub switch-requires : goal.switch-requires
switch-requires g c = record {
  live =
      subst (λ (v : StoreState). IsLive v.tree c.abort_context-context.result) c.store.view_is
      (c.abort_context-context.ensures.stands c.args.space.now
      (abort_there (record { tree = c.store.inside.tree; owners = c.store.inside.owners; levels = c.store.inside.levels; portals = c.store.inside.portals }) c.args.space.now c.args.shelf.now c.args.commons.now (stands_in _ _ _ _ _ c.store.view_is _ _ c.args.commons.now c.requires.stands)));
}

pub own_owner-own-requires-clause-level : goal.own_owner-own-requires-clause-level
own_owner-own-requires-clause-level g c = subst (λ (v : StoreState). 0 < length v.levels) (sym c.switch.ensures.store) c.requires.level

pub own_owner-own-requires-clause-stands : goal.own_owner-own-requires-clause-stands
own_owner-own-requires-clause-stands g c =
    let stands = stands_off c.args.store.now c.switch.new.self c.args.space.now c.args.shelf.now c.args.commons.now c.abort_context-context.result c.switch.ensures.store c.abort_context-context.ensures.number c.requires.level c.requires.stands in
    (c.args.space.now, (c.args.shelf.now, (c.args.commons.now, stands)))

pub settle_portals-requires : goal.settle_portals-requires
settle_portals-requires g c =
    let stands = stands_off c.args.store.now c.switch.new.self c.args.space.now c.args.shelf.now c.args.commons.now c.abort_context-context.result c.switch.ensures.store c.abort_context-context.ensures.number c.requires.level c.requires.stands in
    let some : 0 < length c.switch.new.self.levels = subst (λ (v : StoreState). 0 < length v.levels) (sym c.switch.ensures.store) c.requires.level in
    record {
      keeps = (c.switch.ensures.alone c.args.space.now c.args.commons.now c.requires.keeps).keeps;
      level = ap (λ (v : StoreState). length v.levels) c.switch.ensures.store ∙ sym c.depth-number.ensures.depth;
      so =
          let e = begins_in (left_by (Aborts c.own_owner-own.result)) c.switch.new.self c.args.space.now c.args.shelf.now c.args.commons.now stands some in
          aborts_so c.own_owner-own.result (levels_of c.switch.new.self.levels) e.level e.above e.are c.own_owner-own.ensures.number;
      to = c.own_owner-own.ensures.live;
      ending = (c.args.commons.now, begins_in (left_by (Aborts c.own_owner-own.result)) c.switch.new.self c.args.space.now c.args.shelf.now c.args.commons.now stands some);
    }

pub release_level-requires : goal.release_level-requires
release_level-requires g c = record {
  keeps = c.settle_portals.ensures.out.keeps;
  ending =
      let stands = stands_off c.args.store.now c.switch.new.self c.args.space.now c.args.shelf.now c.args.commons.now c.abort_context-context.result c.switch.ensures.store c.abort_context-context.ensures.number c.requires.level c.requires.stands in
      let some : 0 < length c.switch.new.self.levels = subst (λ (v : StoreState). 0 < length v.levels) (sym c.switch.ensures.store) c.requires.level in
      (left_by (Aborts c.own_owner-own.result), c.settle_portals.ensures.ending c.args.commons.now (begins_in (left_by (Aborts c.own_owner-own.result)) c.switch.new.self c.args.space.now c.args.shelf.now c.args.commons.now stands some));
  serves =
      let first : Serves c.switch.new.self.owners c.args.commons.now = subst (λ (v : StoreState). Serves v.owners c.args.commons.now) (sym c.switch.ensures.store) c.requires.serves in
      serves_still c.switch.new.self.owners c.settle_portals.new.store.owners c.args.commons.now c.args.commons.now first (c.settle_portals.ensures.acted c.args.commons.now).balances;
  level = subst (λ (ls : List Level). 0 < length ls) (sym (c.settle_portals.ensures.out.levels ∙ ap (λ (v : StoreState). v.levels) c.switch.ensures.store)) c.requires.level;
}

pub invariant_of-store : goal.invariant_of-store
invariant_of-store g c =
    let i : StoreState = record { tree = c.store-2.inside.tree; owners = c.store-2.inside.owners; levels = c.store-2.inside.levels; portals = c.store-2.inside.portals } in
    let same : i.levels ≡ c.args.store.now.levels = ap (λ (v : StoreState). v.levels) c.store-2.view_is ∙ c.release_level.ensures.alone.levels ∙ c.settle_portals.ensures.out.levels ∙ ap (λ (v : StoreState). v.levels) c.switch.ensures.store in
    let last = ends i.levels (subst (λ (ls : List Level). 0 < length ls) (sym same) c.requires.level) in
    let e : StoreState = record i { owners = c.pop_from.new.self } in
    marked_placed e last.0 last.1.0 c.mark_aborted.new.self last.1.1 c.mark_aborted.ensures i.tree c.pop_from.new.self i.portals (placed_owners _ _ _ _ _ c.store-2.invariant (go_stack _ _ c.pop_from.ensures.stack_alone))

pub returns : goal.returns
returns g c =
    let i : StoreState = record { tree = c.store-2.inside.tree; owners = c.store-2.inside.owners; levels = c.store-2.inside.levels; portals = c.store-2.inside.portals } in
    let s : Space = c.args.space.now in
    let r : Space = c.settle_portals.new.space in
    let t : Space = c.release_level.new.space in
    let y = c.release_level.new.shelf in
    record {
      acted =
          let a : StoreState = c.args.store.now in
          let off : c.switch.new.self.levels ≡ a.levels = ap (λ (v : StoreState). v.levels) c.switch.ensures.store in
          let same : i.levels ≡ a.levels = ap (λ (v : StoreState). v.levels) c.store-2.view_is ∙ c.release_level.ensures.alone.levels ∙ c.settle_portals.ensures.out.levels ∙ off in
          let last = ends i.levels (subst (λ (ls : List Level). 0 < length ls) (sym same) c.requires.level) in
          let e : StoreState = record i { owners = c.pop_from.new.self } in
          let a1 : StoreState = c.switch.new.self in
          let a2 : StoreState = c.settle_portals.new.store in
          let b : StoreState = c.release_level.new.store in
          let f : StoreState = record e { levels = c.mark_aborted.new.self } in
          let x = c.args.shelf.now in
          let w = c.settle_portals.new.shelf in
          let m : CommonState = c.args.commons.now in
          let k : CommonState = c.release_level.new.commons in
          let n : ℕ = c.depth-number.result in
          let own = c.own_owner-own.result in
          let top : (length a2.levels == 1) ≡ (n == 1) = ap (λ (j : ℕ). j == 1) (ap length (c.settle_portals.ensures.out.levels ∙ off) ∙ sym c.depth-number.ensures.depth) in
          let listed : portals_of a1.portals ≡ portals_of a.portals = ap (λ (v : StoreState). portals_of v.portals) c.switch.ensures.store in
          abort_parts _ (λ o events p. g.E.Emit.emits o events p) g.met.E.Emit.emits_none (λ o p q xs ys h k. g.met.E.Emit.emits_more _ _ _ _ _ _ h k refl)
          a a1 a2 b e f s r t x w y m k own n c.args.out.now c.emit.new.self c.settle_portals.new.out c.release_level.new.out c.pop_from.new.out c.depth-number.ensures.depth
          (c.own_owner-own.ensures.number ∙ ap (λ (ls : List Level). owner_of (first_of (levels_of ls))) off) c.emit.ensures.emitted
          (acted_quiet _ (λ o events p. g.E.Emit.emits o events p) g.met.E.Emit.emits_none (λ o p q xs ys h k. g.met.E.Emit.emits_more _ _ _ _ _ _ h k refl) (switched 5) a a1 s s x x m m c.emit.new.self
          (subst (λ (j : ℕ). Acted (switched j) a a1 s s x x m m IsSilent) c.abort_context-context.ensures.number (c.switch.ensures.acted s x m)))
          (subst (λ (ps : List OpenPortal). Acted (settles (Aborts own) n ps) a1 a2 s r x w m m (λ events. g.E.Emit.emits c.emit.new.self events c.settle_portals.new.out)) listed (c.settle_portals.ensures.acted m))
          (released_as a2 b r t w y m k (λ events. g.E.Emit.emits c.settle_portals.new.out events c.release_level.new.out) false (length a2.levels == 1) (n == 1) top c.release_level.ensures.acted)
          (owners_after i.tree i.owners i.levels i.portals b c.store-2.view_is (stack_popped n) c.pop_from.new.self t y k k (λ events. g.E.Emit.emits c.release_level.new.out events c.pop_from.new.out) (c.pop_from.ensures.acted k) (c.pop_from.ensures.balances k))
          (acted_quiet _ (λ o events p. g.E.Emit.emits o events p) g.met.E.Emit.emits_none (λ o p q xs ys h k. g.met.E.Emit.emits_more _ _ _ _ _ _ h k refl) shuts e f t t y y k k c.pop_from.new.out
          (marked_acted e last.0 last.1.0 c.mark_aborted.new.self last.1.1 c.mark_aborted.ensures t y k));
      keeps = keeps_with i c.pop_from.new.self c.mark_aborted.new.self i.portals c.release_level.new.space (subst (λ (v : StoreState). Keeps v c.release_level.new.space) (sym c.store-2.view_is) c.release_level.ensures.alone.keeps);
      moves = moves_back c.args.store.now.tree c.store-2.inside.tree c.abort_context-context.result s t
          (subst (λ (v : StoreState). Moves v.tree c.store-2.inside.tree s t) c.switch.ensures.store
          (subst (λ (v : StoreState). Moves c.switch.new.self.tree v.tree s t) (sym c.store-2.view_is)
          (moves_then c.switch.new.self.tree c.settle_portals.new.store.tree c.settle_portals.new.store.tree c.release_level.new.store.tree s r t c.settle_portals.ensures.out.moves refl c.release_level.ensures.alone.moves)));
      asked = subst (λ (v : StoreState). Asks v.tree.account 0 c.args.space.now c.release_level.new.space) c.switch.ensures.store
          (asked_then c.switch.new.self.tree c.settle_portals.new.store.tree c.settle_portals.new.store.tree c.args.space.now c.settle_portals.new.space c.release_level.new.space c.settle_portals.ensures.out.asked c.settle_portals.ensures.out.moves.account refl c.release_level.ensures.asked);
      levels = c.mark_aborted.ensures ∙ ap (with_deepest marked) (ap (λ (v : StoreState). v.levels) c.store-2.view_is ∙ c.release_level.ensures.alone.levels ∙ c.settle_portals.ensures.out.levels ∙ ap (λ (v : StoreState). v.levels) c.switch.ensures.store);
      freed =
          let stands = stands_off c.args.store.now c.switch.new.self c.args.space.now c.args.shelf.now c.args.commons.now c.abort_context-context.result c.switch.ensures.store c.abort_context-context.ensures.number c.requires.level c.requires.stands in
          let some : 0 < length c.switch.new.self.levels = subst (λ (v : StoreState). 0 < length v.levels) (sym c.switch.ensures.store) c.requires.level in
          let same : i.levels ≡ c.args.store.now.levels = ap (λ (v : StoreState). v.levels) c.store-2.view_is ∙ c.release_level.ensures.alone.levels ∙ c.settle_portals.ensures.out.levels ∙ ap (λ (v : StoreState). v.levels) c.switch.ensures.store in
          let last = ends i.levels (subst (λ (ls : List Level). 0 < length ls) (sym same) c.requires.level) in
          let e = c.settle_portals.ensures.ending c.args.commons.now (begins_in (left_by (Aborts c.own_owner-own.result)) c.switch.new.self c.args.space.now c.args.shelf.now c.args.commons.now stands some) in
          let shut = shut_in c.own_owner-own.result c.settle_portals.new.store c.release_level.new.store c.settle_portals.new.space t c.settle_portals.new.shelf y c.args.commons.now c.release_level.new.commons (λ events. g.E.Emit.emits c.settle_portals.new.out events c.release_level.new.out) (length c.settle_portals.new.store.levels == 1) e c.release_level.ensures.acted in
          marked_freed i last.0 last.1.0 c.mark_aborted.new.self last.1.1 c.mark_aborted.ensures c.pop_from.new.self t y c.release_level.new.commons e.level e.above
          (ap levels_of (ap (λ (v : StoreState). v.levels) c.store-2.view_is ∙ c.release_level.ensures.alone.levels) ∙ e.are) e.made c.pop_from.ensures.stack_alone
          (subst (λ (v : StoreState). IsShut e.level e.above (scene_of v t y c.release_level.new.commons nowhere)) (sym c.store-2.view_is) shut);
    }
