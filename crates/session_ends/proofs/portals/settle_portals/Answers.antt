-- Each turn settles the first of the portals that are left.
use Rattle.session_ends.proofs.Base.{◌≡◌, ◌+◌, ◌-◌, ◌≤◌, List, [], ◌∷◌, All, length, refl, sym, ap, ◌∙◌, subst, arith, length-append, length-map}
use Rattle.session_ends.proofs.Words.{CommonState, OpenPortal, for_each, StoreState, levels_of, portal_state, portals_of, Acted, EndsSo, GoesOut, IsEnding, left_by, owner_to, portal_after}
use Rattle.session_ends.proofs.Lemmas.{ending_step, out_more, out_nothing, some_on, acted_more, acted_none, left_within, next_is, one_more, settling_leads, IsQuiet, ending_front, quiet_back, quiet_ending, quiet_more}
use Rattle.session_ends.proofs.portals.settle_portals.Given as given
use Rattle.session_ends.proofs.portals.settle_portals.Goals as goal

pub loop-portal-init : goal.loop-portal-init
loop-portal-init g c = record {
  on = record {
    done = [];
    back = portals_of c.args.store.now.portals;
    all = refl;
    long = length-map c.args.store.now.portals portal_state ∙ sym (c.len-left.ensures.length ∙ ap (λ (v : StoreState). length v.portals) c.store.view_is);
  };
  ending = λ m e. e;
  acted = λ m. acted_none _ (λ o events p. g.E.Emit.emits o events p) g.met.E.Emit.emits_none (λ o p q xs ys h k. g.met.E.Emit.emits_more _ _ _ _ _ _ h k refl) (portal_after c.args.end c.args.level) c.args.store.now c.args.space.now c.args.shelf.now m c.args.out.now;
  out = out_nothing c.args.store.now c.args.space.now c.requires.keeps;
  to = c.requires.to;
}

pub touched_at-requires : goal.touched_at-requires
touched_at-requires g c =
    let inv = c.loop-portal.invariant in
    left_within (left_by c.args.end) c.loop-portal.store c.loop-portal.space c.loop-portal.shelf c.requires.ending.0 inv.on.back c.loop-portal.left (inv.ending c.requires.ending.0 c.requires.ending.1) inv.on.long

pub settle_portal-requires-clause-keeps : goal.settle_portal-requires-clause-keeps
settle_portal-requires-clause-keeps g c = c.loop-portal.invariant.out.keeps

pub settle_portal-requires-clause-level : goal.settle_portal-requires-clause-level
settle_portal-requires-clause-level g c = ap length c.loop-portal.invariant.out.levels ∙ c.requires.level

pub settle_portal-requires-clause-so : goal.settle_portal-requires-clause-so
settle_portal-requires-clause-so g c = subst (EndsSo c.args.end) (sym (ap levels_of c.loop-portal.invariant.out.levels)) c.requires.so

pub settle_portal-requires-clause-to : goal.settle_portal-requires-clause-to
settle_portal-requires-clause-to g c = c.loop-portal.invariant.to

pub settle_portal-requires-clause-at : goal.settle_portal-requires-clause-at
settle_portal-requires-clause-at g c = c.in-Some.ensures.portal

pub settle_portal-requires-clause-ending : goal.settle_portal-requires-clause-ending
settle_portal-requires-clause-ending g c =
    let inv = c.loop-portal.invariant in
    let m : CommonState = c.requires.ending.0 in
    let now = inv.ending m c.requires.ending.1 in
    let next = next_is (left_by c.args.end) c.loop-portal.store c.loop-portal.space c.loop-portal.shelf m inv.on.back c.loop-portal.left c.in-Some.portal now inv.on.long c.in-Some.ensures.portal in
    (m, (next.0, (omega (arith, inv.on.long, ap length next.1), subst (λ (back : List OpenPortal). IsEnding (left_by c.args.end) c.loop-portal.store c.loop-portal.space c.loop-portal.shelf m back) next.1 now)))

pub overflow_sub-left : goal.overflow_sub-left
overflow_sub-left g c =
    let inv = c.loop-portal.invariant in
    let next = next_is (left_by c.args.end) c.loop-portal.store c.loop-portal.space c.loop-portal.shelf c.requires.ending.0 inv.on.back c.loop-portal.left c.in-Some.portal (inv.ending c.requires.ending.0 c.requires.ending.1) inv.on.long c.in-Some.ensures.portal in
    omega (arith, inv.on.long, ap length next.1)

pub loop-portal-smaller : goal.loop-portal-smaller
loop-portal-smaller g c =
    let inv = c.loop-portal.invariant in
    let next = next_is (left_by c.args.end) c.loop-portal.store c.loop-portal.space c.loop-portal.shelf c.requires.ending.0 inv.on.back c.loop-portal.left c.in-Some.portal (inv.ending c.requires.ending.0 c.requires.ending.1) inv.on.long c.in-Some.ensures.portal in
    omega (arith, inv.on.long, ap length next.1)

pub loop-portal-preserved : goal.loop-portal-preserved
loop-portal-preserved g c =
    let inv = c.loop-portal.invariant in
    let a : StoreState = c.args.store.now in
    let b : StoreState = c.loop-portal.store in
    let d : StoreState = c.settle_portal.new.store in
    let p : OpenPortal = portal_state c.in-Some.portal in
    let next = next_is (left_by c.args.end) b c.loop-portal.space c.loop-portal.shelf c.requires.ending.0 inv.on.back c.loop-portal.left c.in-Some.portal (inv.ending c.requires.ending.0 c.requires.ending.1) inv.on.long c.in-Some.ensures.portal in
    record {
      on = one_more (portals_of a.portals) c.loop-portal.left p next.0 inv.on next.1;
      ending = λ m e0.
          let e : IsEnding (left_by c.args.end) b c.loop-portal.space c.loop-portal.shelf m (p ∷ next.0) = subst (λ (back : List OpenPortal). IsEnding (left_by c.args.end) b c.loop-portal.space c.loop-portal.shelf m back) next.1 (inv.ending m e0) in
          ending_step (left_by c.args.end) (portal_after c.args.end c.args.level) b d c.loop-portal.space c.settle_portal.new.space c.loop-portal.shelf c.settle_portal.new.shelf m m p next.0 (λ events. g.E.Emit.emits c.loop-portal.out events c.settle_portal.new.out) e
          (settling_leads c.args.end c.args.level b c.loop-portal.space c.loop-portal.shelf m p next.0 e (subst (EndsSo c.args.end) (sym (ap levels_of inv.out.levels)) c.requires.so) (ap length inv.out.levels ∙ c.requires.level))
          (c.settle_portal.ensures.acted m) c.settle_portal.ensures.out.levels;
      acted = λ m.
          acted_more _ (λ o events p. g.E.Emit.emits o events p) g.met.E.Emit.emits_none (λ o p q xs ys h k. g.met.E.Emit.emits_more _ _ _ _ _ _ h k refl) (portal_after c.args.end c.args.level) inv.on.done p a b d c.args.space.now c.loop-portal.space c.settle_portal.new.space c.args.shelf.now c.loop-portal.shelf c.settle_portal.new.shelf
          m m m c.args.out.now c.loop-portal.out c.settle_portal.new.out (inv.acted m) (c.settle_portal.ensures.acted m);
      out = out_more a b d c.args.space.now c.loop-portal.space c.settle_portal.new.space inv.out c.settle_portal.ensures.out;
      to = some_on (owner_to c.args.end) (λ id. c.settle_portal.ensures.stays id) inv.to;
    }

pub settled-requires : goal.settled-requires
settled-requires g c =
    let inv = c.loop-portal.invariant in
    left_within (left_by c.args.end) c.loop-portal.store c.loop-portal.space c.loop-portal.shelf c.requires.ending.0 inv.on.back c.loop-portal.left (inv.ending c.requires.ending.0 c.requires.ending.1) inv.on.long

-- the end of the level isn't about the portals that are left
quiet : (g : given.Over) (c : goal.After-settled g) → All (IsQuiet c.args.level) c.loop-portal.invariant.on.back
quiet g c =
    let inv = c.loop-portal.invariant in
    let ps : List OpenPortal = portals_of c.args.store.now.portals in
    let few : c.loop-portal.left ≤ c.untouched-rest.result = c.touched_at.ensures.none c.in_default.is in
    let long : length ps ≡ length inv.on.done + length inv.on.back = ap length inv.on.all ∙ length-append inv.on.done inv.on.back in
    quiet_back c.args.level (length c.args.store.now.portals - c.untouched-rest.result) ps inv.on.done inv.on.back inv.on.all (omega (arith, few, long, inv.on.long, length-map c.args.store.now.portals portal_state)) c.untouched-rest.ensures.others

pub returns : goal.returns
returns g c = record {
  acted = λ m. let inv = c.loop-portal.invariant in
      let b : StoreState = c.loop-portal.store in
      let n : CommonState = c.requires.ending.0 in
      let e : IsEnding (left_by c.args.end) b c.loop-portal.space c.loop-portal.shelf n inv.on.back = inv.ending n c.requires.ending.1 in
      subst (λ (v : StoreState). Acted (λ scene. for_each (portal_after c.args.end c.args.level) (portals_of c.args.store.now.portals) scene) c.args.store.now v c.args.space.now c.loop-portal.space c.args.shelf.now c.loop-portal.shelf m m (λ events. g.E.Emit.emits c.args.out.now events c.loop-portal.out))
      (sym c.settled.ensures)
      (quiet_more _ (λ o events p. g.E.Emit.emits o events p) g.met.E.Emit.emits_none (λ o p q xs ys h k. g.met.E.Emit.emits_more _ _ _ _ _ _ h k refl) c.args.end c.args.level c.args.store.now b c.args.space.now c.loop-portal.space c.args.shelf.now c.loop-portal.shelf m c.args.out.now c.loop-portal.out
      (portals_of c.args.store.now.portals) inv.on.done e.front inv.on.back inv.on.all (ending_front (left_by c.args.end) b c.loop-portal.space c.loop-portal.shelf n inv.on.back e) e.ending.different (quiet g c) (inv.acted m));
  out = subst (λ (v : StoreState). GoesOut c.args.store.now v c.args.space.now c.loop-portal.space) (sym c.settled.ensures) c.loop-portal.invariant.out;
  ending = λ m e. let inv = c.loop-portal.invariant in
      subst (λ (v : StoreState). IsEnding (left_by c.args.end) v c.loop-portal.space c.loop-portal.shelf m []) (sym c.settled.ensures)
      (quiet_ending c.args.end c.args.level c.loop-portal.store c.loop-portal.space c.loop-portal.shelf m inv.on.back (subst (EndsSo c.args.end) (sym (ap levels_of inv.out.levels)) c.requires.so) (ap length inv.out.levels ∙ c.requires.level) (quiet g c) (inv.ending m e));
}
