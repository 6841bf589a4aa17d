-- Each turn closes the first of the portals that are left.
use Rattle.session_ends.proofs.Base.{List, [], ◌∷◌, length, refl, sym, ap, ◌∙◌, subst, arith, length-map}
use Rattle.session_ends.proofs.Words.{OpenPortal, for_each, portal_closed, StoreState, portal_state, portals_of, Acted, IsEnding, none_left}
use Rattle.session_ends.proofs.Lemmas.{ending_step, out_more, out_nothing, acted_more, acted_none, all_done, closing_leads, left_within, next_is, next_none, one_more}
use Rattle.session_ends.proofs.portals.close_portals.Goals as goal

pub loop-portal-init : goal.loop-portal-init
loop-portal-init g c = record {
  on = record {
    done = [];
    back = portals_of c.args.store.now.portals;
    all = refl;
    long = length-map c.args.store.now.portals portal_state ∙ sym (c.len-left.ensures.length ∙ ap (λ (v : StoreState). length v.portals) c.store.view_is);
  };
  ending = c.requires.ending;
  acted = acted_none _ (λ o events p. g.E.Emit.emits o events p) g.met.E.Emit.emits_none (λ o p q xs ys h k. g.met.E.Emit.emits_more _ _ _ _ _ _ h k refl) portal_closed c.args.store.now c.args.space.now c.args.shelf.now c.args.commons.now c.args.out.now;
  out = out_nothing c.args.store.now c.args.space.now c.requires.keeps;
  serves = c.requires.serves;
}

pub portal_at-requires : goal.portal_at-requires
portal_at-requires g c =
    let inv = c.loop-portal.invariant in
    left_within none_left c.loop-portal.store c.loop-portal.space c.loop-portal.shelf c.loop-portal.commons inv.on.back c.loop-portal.left inv.ending inv.on.long

pub close_portal-requires-clause-keeps : goal.close_portal-requires-clause-keeps
close_portal-requires-clause-keeps g c = c.loop-portal.invariant.out.keeps

pub close_portal-requires-clause-one : goal.close_portal-requires-clause-one
close_portal-requires-clause-one g c = ap length c.loop-portal.invariant.out.levels ∙ c.requires.one

pub close_portal-requires-clause-ending : goal.close_portal-requires-clause-ending
close_portal-requires-clause-ending g c =
    let inv = c.loop-portal.invariant in
    let next = next_is none_left c.loop-portal.store c.loop-portal.space c.loop-portal.shelf c.loop-portal.commons inv.on.back c.loop-portal.left c.in-Some.portal inv.ending inv.on.long (sym c.portal_at.ensures.portal ∙ c.in-Some.is) in
    (next.0, subst (λ (back : List OpenPortal). IsEnding none_left c.loop-portal.store c.loop-portal.space c.loop-portal.shelf c.loop-portal.commons back) next.1 inv.ending)

pub overflow_sub-left : goal.overflow_sub-left
overflow_sub-left g c =
    let inv = c.loop-portal.invariant in
    let next = next_is none_left c.loop-portal.store c.loop-portal.space c.loop-portal.shelf c.loop-portal.commons inv.on.back c.loop-portal.left c.in-Some.portal inv.ending inv.on.long (sym c.portal_at.ensures.portal ∙ c.in-Some.is) in
    omega (arith, inv.on.long, ap length next.1)

pub loop-portal-smaller : goal.loop-portal-smaller
loop-portal-smaller g c =
    let inv = c.loop-portal.invariant in
    let next = next_is none_left c.loop-portal.store c.loop-portal.space c.loop-portal.shelf c.loop-portal.commons inv.on.back c.loop-portal.left c.in-Some.portal inv.ending inv.on.long (sym c.portal_at.ensures.portal ∙ c.in-Some.is) in
    omega (arith, inv.on.long, ap length next.1)

pub loop-portal-preserved : goal.loop-portal-preserved
loop-portal-preserved g c =
    let inv = c.loop-portal.invariant in
    let a : StoreState = c.args.store.now in
    let b : StoreState = c.loop-portal.store in
    let d : StoreState = c.close_portal.new.store in
    let p : OpenPortal = portal_state c.in-Some.portal in
    let next = next_is none_left b c.loop-portal.space c.loop-portal.shelf c.loop-portal.commons inv.on.back c.loop-portal.left c.in-Some.portal inv.ending inv.on.long (sym c.portal_at.ensures.portal ∙ c.in-Some.is) in
    let e : IsEnding none_left b c.loop-portal.space c.loop-portal.shelf c.loop-portal.commons (p ∷ next.0) = subst (λ (back : List OpenPortal). IsEnding none_left b c.loop-portal.space c.loop-portal.shelf c.loop-portal.commons back) next.1 inv.ending in
    record {
      on = one_more (portals_of a.portals) c.loop-portal.left p next.0 inv.on next.1;
      ending = ending_step none_left portal_closed b d c.loop-portal.space c.close_portal.new.space c.loop-portal.shelf c.close_portal.new.shelf c.loop-portal.commons c.close_portal.new.commons p next.0 (λ events. g.E.Emit.emits c.loop-portal.out events c.close_portal.new.out) e
          (closing_leads b c.loop-portal.space c.loop-portal.shelf c.loop-portal.commons p next.0 e (ap length inv.out.levels ∙ c.requires.one)) c.close_portal.ensures.acted c.close_portal.ensures.out.levels;
      acted = acted_more _ (λ o events p. g.E.Emit.emits o events p) g.met.E.Emit.emits_none (λ o p q xs ys h k. g.met.E.Emit.emits_more _ _ _ _ _ _ h k refl) portal_closed inv.on.done p a b d c.args.space.now c.loop-portal.space c.close_portal.new.space c.args.shelf.now c.loop-portal.shelf c.close_portal.new.shelf
          c.args.commons.now c.loop-portal.commons c.close_portal.new.commons c.args.out.now c.loop-portal.out c.close_portal.new.out inv.acted c.close_portal.ensures.acted;
      out = out_more a b d c.args.space.now c.loop-portal.space c.close_portal.new.space inv.out c.close_portal.ensures.out;
      serves = c.close_portal.ensures.serves;
    }

pub returns : goal.returns
returns g c =
    let inv = c.loop-portal.invariant in
    record {
      acted = all_done (λ (ps : List OpenPortal). Acted (λ scene. for_each portal_closed ps scene) c.args.store.now c.loop-portal.store c.args.space.now c.loop-portal.space c.args.shelf.now c.loop-portal.shelf c.args.commons.now c.loop-portal.commons (λ events. g.E.Emit.emits c.args.out.now events c.loop-portal.out))
          (portals_of c.args.store.now.portals) inv.on.done inv.on.back inv.on.all
          (next_none none_left c.loop-portal.store c.loop-portal.space c.loop-portal.shelf c.loop-portal.commons inv.on.back c.loop-portal.left inv.ending inv.on.long (sym c.portal_at.ensures.portal ∙ c.in_default.is))
          inv.acted;
      out = c.loop-portal.invariant.out;
      serves = c.loop-portal.invariant.serves;
      ending = subst (λ (back : List OpenPortal). IsEnding none_left c.loop-portal.store c.loop-portal.space c.loop-portal.shelf c.loop-portal.commons back)
          (next_none none_left c.loop-portal.store c.loop-portal.space c.loop-portal.shelf c.loop-portal.commons inv.on.back c.loop-portal.left inv.ending inv.on.long (sym c.portal_at.ensures.portal ∙ c.in_default.is))
          inv.ending;
    }
