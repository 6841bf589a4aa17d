-- Room is reserved, the context is made, and then the plan, which can't fail.
use Rattle.session_store.proofs.Words.{◌≡◌, ◌⊎◌, ℕ, true, List, Some, None, refl, sym, ap, ◌∙◌, subst, inl, inr, arith, codes, length, at, Contexts, created, created_events, create_refusal, Memory, stands_for, ResourceState, balances_more, plan_at, plan_made, StoreState, contexts_in, left_in, session_of, Acted, BothAlone, Unmade, plan_refusal}
use Rattle.session_store.proofs.Lemmas.{goes_made, goes_nowhere, keeps_in, left_through, own_in, placed_after}
use Rattle.any_ctx.specs.declared.any.CtxKind.TheVariants as kind
use Rattle.session_store.proofs.Planned.{both_alone, is_unused, planned_acted, planned_placed, room_left, unmade_context, with_plan}
use Rattle.session_store.proofs.store.Store.make_plan.Goals as goal

pub reserve_plan-requires : goal.reserve_plan-requires
unfolding session_of
reserve_plan-requires g c =
    let a : StoreState = record { tree = c.self.inside.tree; owners = c.self.inside.owners; levels = c.self.inside.levels; portals = c.self.inside.portals } in
    record { new = is_unused a.owners c.args.plan (subst (λ (v : StoreState). plan_at c.args.plan (session_of v c.args.space.now).plans ≡ None) (sym c.self.view_is) c.requires.new) }

pub returns-in-Err-clause-alone : goal.returns-in-Err-clause-alone
returns-in-Err-clause-alone g c commons =
    let a : StoreState = record { tree = c.self.inside.tree; owners = c.self.inside.owners; levels = c.self.inside.levels; portals = c.self.inside.portals } in
    let keeps = keeps_in _ _ _ _ _ c.self.view_is c.args.space.now c.requires.keeps in
    subst (λ (v : StoreState). BothAlone v (record a { owners = c.reserve_plan.new.self }) c.args.space.now c.args.space.now commons commons) c.self.view_is
    (both_alone a a.tree c.reserve_plan.new.self c.args.space.now c.args.space.now commons commons keeps (goes_nowhere a.tree a.tree c.args.space.now c.args.space.now keeps.agrees refl refl)
    (λ n there. ap (λ (r : ResourceState). at n r.places) c.in-Err.ensures.refused) (c.reserve_plan.ensures.balances commons))

pub create-requires-clause-live : goal.create-requires-clause-live
create-requires-clause-live g c =
    c.cache-cache.ensures.stands c.args.space.now (own_in _ _ _ _ _ c.self.view_is c.args.space.now c.requires.stands.0 c.requires.stands.1.0 c.requires.stands.1.1 3 (omega arith) (omega arith))

pub invariant_of-self-in-Ok : goal.invariant_of-self-in-Ok
invariant_of-self-in-Ok g c =
    let made : c.make_plan.new.self ≡ with_plan c.args.plan c.in-Ok.context c.self.inside.owners = c.make_plan.ensures.made ∙ ap (with_plan c.args.plan c.in-Ok.context) c.in_default.ensures.reserved in
    planned_placed c.create.new.self c.self.inside.owners c.make_plan.new.self c.self.inside.levels c.self.inside.portals c.args.plan c.in-Ok.context made
    (placed_after _ _ _ _ _ c.self.view_is c.create.new.self c.args.space.now c.create.new.space c.requires.stands.0 c.requires.stands.1.0 c.requires.stands.1.1 c.self.invariant
    (goes_made _ _ _ _ c.create.ensures.moves c.create.ensures.stays c.create.ensures.fresh c.create.ensures.current))
    c.in-Ok.ensures.live

pub returns-in-Ok-clause-acted : goal.returns-in-Ok-clause-acted
returns-in-Ok-clause-acted g c x commons =
    let a : StoreState = record { tree = c.self.inside.tree; owners = c.self.inside.owners; levels = c.self.inside.levels; portals = c.self.inside.portals } in
    let made : c.make_plan.new.self ≡ with_plan c.args.plan c.in-Ok.context a.owners = c.make_plan.ensures.made ∙ ap (with_plan c.args.plan c.in-Ok.context) c.in_default.ensures.reserved in
    subst (λ (v : StoreState). Acted (plan_made c.args.plan) v (record { tree = c.create.new.self; owners = c.make_plan.new.self; levels = a.levels; portals = a.portals }) c.args.space.now c.create.new.space x x commons commons (λ events. g.E.Emit.emits c.args.out.now events c.create.new.out)) c.self.view_is
    (planned_acted a c.create.new.self c.make_plan.new.self c.args.space.now c.create.new.space c.args.plan c.in-Ok.context c.cache-cache.result.number (λ events. g.E.Emit.emits c.args.out.now events c.create.new.out) x commons
    c.create.ensures.moves.limit c.cache-cache.ensures.number c.in-Ok.ensures.number
    (subst (λ (name : List ℕ). stands_for c.create.new.self c.create.new.space ≡ created c.cache-cache.result.number a.tree.next name kind.Small true (stands_for a.tree c.args.space.now)) c.own_name-name.ensures c.in-Ok.ensures.contexts)
    c.create.ensures.current c.in-Ok.ensures.next made
    (subst (λ (name : List ℕ). g.E.Emit.emits c.args.out.now (created_events c.cache-cache.result.number a.tree.next name) c.create.new.out) c.own_name-name.ensures c.in-Ok.ensures.emits)
    (balances_more _ _ _ _ _ _ (c.reserve_plan.ensures.balances commons) (c.make_plan.ensures.balances commons)))

pub returns-in-Ok-clause-alone : goal.returns-in-Ok-clause-alone
returns-in-Ok-clause-alone g c commons =
    let a : StoreState = record { tree = c.self.inside.tree; owners = c.self.inside.owners; levels = c.self.inside.levels; portals = c.self.inside.portals } in
    let made : c.make_plan.new.self ≡ with_plan c.args.plan c.in-Ok.context a.owners = c.make_plan.ensures.made ∙ ap (with_plan c.args.plan c.in-Ok.context) c.in_default.ensures.reserved in
    subst (λ (v : StoreState). BothAlone v (record { tree = c.create.new.self; owners = c.make_plan.new.self; levels = a.levels; portals = a.portals }) c.args.space.now c.create.new.space commons commons) c.self.view_is
    (both_alone a c.create.new.self c.make_plan.new.self c.args.space.now c.create.new.space commons commons (keeps_in _ _ _ _ _ c.self.view_is c.args.space.now c.requires.keeps)
    (goes_made _ _ _ _ c.create.ensures.moves c.create.ensures.stays c.create.ensures.fresh c.create.ensures.current)
    (λ n there. ap (λ (r : ResourceState). at n r.places) made)
    (balances_more _ _ _ _ _ _ (c.reserve_plan.ensures.balances commons) (c.make_plan.ensures.balances commons)))

pub returns-in-Ok-clause-served : goal.returns-in-Ok-clause-served
returns-in-Ok-clause-served g c =
    let a : StoreState = record { tree = c.self.inside.tree; owners = c.self.inside.owners; levels = c.self.inside.levels; portals = c.self.inside.portals } in
    subst (λ (v : StoreState). plan_refusal (length v.owners.plans.standing) (left_in v c.args.space.now) (contexts_in v c.args.space.now) ≡ None) c.self.view_is
    (room_left c.reserve_plan.result (length a.owners.plans.standing) (left_in a c.args.space.now) (contexts_in a c.args.space.now) c.in_default.field-0 c.in_default.is c.reserve_plan.ensures.too_many
    ∙ left_through a.tree a.owners a.levels a.portals a refl (λ (account n left : ℕ) (contexts : Contexts). create_refusal left (codes "CachedPlan") kind.Small true contexts ≡ None) c.args.space.now _ refl (keeps_in _ _ _ _ _ c.self.view_is c.args.space.now c.requires.keeps)
    c.in-Ok.ensures.served)

pub returns-in-Err-create-clause-alone : goal.returns-in-Err-create-clause-alone
returns-in-Err-create-clause-alone g c commons =
    let a : StoreState = record { tree = c.self.inside.tree; owners = c.self.inside.owners; levels = c.self.inside.levels; portals = c.self.inside.portals } in
    subst (λ (v : StoreState). BothAlone v (record { tree = c.create.new.self; owners = c.reserve_plan.new.self; levels = a.levels; portals = a.portals }) c.args.space.now c.create.new.space commons commons) c.self.view_is
    (both_alone a c.create.new.self c.reserve_plan.new.self c.args.space.now c.create.new.space commons commons (keeps_in _ _ _ _ _ c.self.view_is c.args.space.now c.requires.keeps)
    (goes_made _ _ _ _ c.create.ensures.moves c.create.ensures.stays c.create.ensures.fresh c.create.ensures.current)
    (λ n there. ap (λ (r : ResourceState). at n r.places) c.in_default.ensures.reserved) (c.reserve_plan.ensures.balances commons))

pub returns-in-Err-create-clause-cause : goal.returns-in-Err-create-clause-cause
returns-in-Err-create-clause-cause g c =
    let a : StoreState = record { tree = c.self.inside.tree; owners = c.self.inside.owners; levels = c.self.inside.levels; portals = c.self.inside.portals } in
    let room = room_left c.reserve_plan.result (length a.owners.plans.standing) (left_in a c.args.space.now) (contexts_in a c.args.space.now) c.in_default.field-0 c.in_default.is c.reserve_plan.ensures.too_many in
    let cause = left_through a.tree a.owners a.levels a.portals a refl (λ (account n left : ℕ) (contexts : Contexts). (c.in-Err-create.error ≡ Memory) ⊎ (create_refusal left (codes "CachedPlan") kind.Small true contexts ≡ Some c.in-Err-create.error)) c.args.space.now _ refl (keeps_in _ _ _ _ _ c.self.view_is c.args.space.now c.requires.keeps)
    c.in-Err-create.ensures.refused in
    subst (λ (v : StoreState). (c.in-Err-create.error ≡ Memory) ⊎ (plan_refusal (length v.owners.plans.standing) (left_in v c.args.space.now) (contexts_in v c.args.space.now) ≡ Some c.in-Err-create.error)) c.self.view_is
    (elim cause [ inl e ↦ inl e | inr e ↦ inr (room ∙ e) ])

pub returns-in-Err-create-clause-refused : goal.returns-in-Err-create-clause-refused
returns-in-Err-create-clause-refused g c x commons =
    let a : StoreState = record { tree = c.self.inside.tree; owners = c.self.inside.owners; levels = c.self.inside.levels; portals = c.self.inside.portals } in
    subst (λ (v : StoreState). Unmade v (record { tree = c.create.new.self; owners = c.reserve_plan.new.self; levels = a.levels; portals = a.portals }) c.args.space.now c.create.new.space x x commons commons) c.self.view_is
    (unmade_context a c.create.new.self c.reserve_plan.new.self c.args.space.now c.create.new.space x commons (Some c.args.plan) c.in_default.ensures.reserved c.in-Err-create.ensures.err c.in-Err-create.ensures.err_space)
