-- The plan is discarded, or gone with its context.
use Rattle.session_ends.proofs.Base.{◌≡◌, true, sym, ap, subst}
use Rattle.session_ends.proofs.Words.{Asks, Space, ShelfState, at, is_usable, ResourceState, plan_dropped, StoreState, Acted, BothAlone, both_alone, keeps_in, stands_in}
use Rattle.session_ends.proofs.Lemmas.{acted_on, go_plans, goes_of, plans_fit, out_owners, placed_out}
use Rattle.session_ends.proofs.items.drop_plan.Goals as goal

pub drop_plan-requires-clause-usable : goal.drop_plan-requires-clause-usable
drop_plan-requires-clause-usable g c = subst (λ (v : StoreState). is_usable v.owners.plans c.args.plan ≡ true) (sym c.store.view_is) c.requires.usable

pub drop_plan-requires-clause-fit : goal.drop_plan-requires-clause-fit
drop_plan-requires-clause-fit g c =
    let a : StoreState = record { tree = c.store.inside.tree; owners = c.store.inside.owners; levels = c.store.inside.levels; portals = c.store.inside.portals } in
    plans_fit a c.args.space.now c.args.shelf.now c.requires.stands.0 (keeps_in _ _ _ _ _ c.store.view_is _ c.requires.keeps) (stands_in _ _ _ _ _ c.store.view_is _ _ c.requires.stands.0 c.requires.stands.1) c.store.invariant

pub invariant_of-store : goal.invariant_of-store
invariant_of-store g c =
    let a : StoreState = record { tree = c.store.inside.tree; owners = c.store.inside.owners; levels = c.store.inside.levels; portals = c.store.inside.portals } in
    let b : StoreState = record { tree = c.drop_plan.new.place.tree.now; owners = c.drop_plan.new.self; levels = a.levels; portals = a.portals } in
    let r = c.drop_plan.ensures in
    let keeps = keeps_in _ _ _ _ _ c.store.view_is c.args.space.now c.requires.keeps in
    placed_out a b c.args.space.now c.drop_plan.new.place.space.now
    (out_owners a b.tree b.owners c.args.space.now c.drop_plan.new.place.space.now keeps (r.went.3 keeps.agrees) (go_plans a.owners c.drop_plan.new.self r.plans_alone r.left)
    (ap (λ (q : ResourceState). q.next_owner) r.plans_alone) (ap (λ (q : ResourceState). q.next_serial) r.plans_alone))
    a.portals r.left c.store.invariant

pub returns : goal.returns
returns g c = record {
  acted = λ commons. let a : StoreState = record { tree = c.store.inside.tree; owners = c.store.inside.owners; levels = c.store.inside.levels; portals = c.store.inside.portals } in
      let r = c.drop_plan.ensures in
      let keeps = keeps_in _ _ _ _ _ c.store.view_is c.args.space.now c.requires.keeps in
      subst (λ (t : Space). Acted (plan_dropped c.args.plan) c.args.store.now (record { tree = c.drop_plan.new.place.tree.now; owners = c.drop_plan.new.self; levels = c.store.inside.levels; portals = c.store.inside.portals }) c.args.space.now t c.args.shelf.now c.shelf-1.given.0 commons commons (λ events. g.E.Emit.emits c.args.out.now events c.drop_plan.new.out)) (sym (c.space-1.given.1 (sym c.drop_plan.ensures.went.1)))
      (subst (λ (y : ShelfState). Acted (plan_dropped c.args.plan) c.args.store.now (record { tree = c.drop_plan.new.place.tree.now; owners = c.drop_plan.new.self; levels = c.store.inside.levels; portals = c.store.inside.portals }) c.args.space.now c.drop_plan.new.place.space.now c.args.shelf.now y commons commons (λ events. g.E.Emit.emits c.args.out.now events c.drop_plan.new.out)) (sym (c.shelf-1.given.1 (sym c.drop_plan.ensures.went.2)))
      (subst (λ (v : StoreState). Acted (plan_dropped c.args.plan) v (record { tree = c.drop_plan.new.place.tree.now; owners = c.drop_plan.new.self; levels = a.levels; portals = a.portals }) c.args.space.now c.drop_plan.new.place.space.now c.args.shelf.now c.drop_plan.new.place.shelf.now commons commons (λ events. g.E.Emit.emits c.args.out.now events c.drop_plan.new.out)) c.store.view_is
      (acted_on (plan_dropped c.args.plan) a c.drop_plan.new.place.tree.now c.drop_plan.new.self c.args.space.now c.drop_plan.new.place.space.now c.args.shelf.now c.drop_plan.new.place.shelf.now commons commons (λ events. g.E.Emit.emits c.args.out.now events c.drop_plan.new.out)
      (r.acted commons) (r.went.3 keeps.agrees) (r.balances commons))));
  alone = λ commons. let a : StoreState = record { tree = c.store.inside.tree; owners = c.store.inside.owners; levels = c.store.inside.levels; portals = c.store.inside.portals } in
      let r = c.drop_plan.ensures in
      let keeps = keeps_in _ _ _ _ _ c.store.view_is c.args.space.now c.requires.keeps in
      subst (λ (t : Space). BothAlone c.args.store.now (record { tree = c.drop_plan.new.place.tree.now; owners = c.drop_plan.new.self; levels = c.store.inside.levels; portals = c.store.inside.portals }) c.args.space.now t commons commons) (sym (c.space-1.given.1 (sym c.drop_plan.ensures.went.1)))
      (subst (λ (v : StoreState). BothAlone v (record { tree = c.drop_plan.new.place.tree.now; owners = c.drop_plan.new.self; levels = a.levels; portals = a.portals }) c.args.space.now c.drop_plan.new.place.space.now commons commons) c.store.view_is
      (both_alone a c.drop_plan.new.place.tree.now c.drop_plan.new.self c.args.space.now c.drop_plan.new.place.space.now commons commons keeps
      (goes_of a.tree c.drop_plan.new.place.tree.now c.args.space.now c.drop_plan.new.place.space.now (r.went.3 keeps.agrees))
      (λ n there. ap (λ (q : ResourceState). at n q.places) r.plans_alone) (r.balances commons)));
  asked =
      let keeps = keeps_in _ _ _ _ _ c.store.view_is c.args.space.now c.requires.keeps in
      subst (λ (t : Space). Asks c.args.store.now.tree.account 0 c.args.space.now t) (sym (c.space-1.given.1 (sym c.drop_plan.ensures.went.1)))
      (subst (λ (v : StoreState). Asks v.tree.account 0 c.args.space.now c.drop_plan.new.place.space.now) c.store.view_is (c.drop_plan.ensures.went.3 keeps.agrees).asked);
}
