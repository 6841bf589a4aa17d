-- The new context is below that for portals, and the portal has it.
use Rattle.session_ends.proofs.Base.{◌≡◌, ◌⊎◌, true, ℕ, Some, None, refl, subst, arith, codes}
use Rattle.session_ends.proofs.Words.{Contexts, create_refusal, Memory, Portal, PortalContext, new_context_made, StoreState, Acted, Refused, goes_made, keeps_on, keeps_in, left_through, own_in, placed_after, refused_regions}
use Rattle.any_ctx.specs.declared.any.CtxKind.TheVariants as kind
use Rattle.session_ends.proofs.Lemmas.{placed_changed, context_acted, keeps_open}
use Rattle.session_ends.proofs.making.make_portal_context.Goals as goal

pub create-requires-clause-live : goal.create-requires-clause-live
create-requires-clause-live g c =
    c.portals-parent.ensures.stands c.args.space.now (own_in _ _ _ _ _ c.store.view_is c.args.space.now c.requires.stands.0 c.requires.stands.1.0 c.requires.stands.1.1 4 (omega arith) (omega arith))

pub invariant_of-store : goal.invariant_of-store
invariant_of-store g c =
    placed_changed _ _ _ c.store.inside.portals c.set_context.new.self c.args.name.now (λ (p : Portal). record p { context = Some c.in-Ok.context })
    (placed_after _ _ _ _ _ c.store.view_is c.create.new.self c.args.space.now c.create.new.space c.requires.stands.0 c.requires.stands.1.0 c.requires.stands.1.1 c.store.invariant
    (goes_made _ _ _ _ c.create.ensures.moves c.create.ensures.stays c.create.ensures.fresh c.create.ensures.current))
    (λ p e lies. record { context = λ there. c.in-Ok.ensures.live; expr = lies.expr; owner = lies.owner; scan = lies.scan }) c.set_context.ensures.portals

pub returns-in-Ok-clause-acted : goal.returns-in-Ok-clause-acted
returns-in-Ok-clause-acted g c x commons =
    let a : StoreState = record { tree = c.store.inside.tree; owners = c.store.inside.owners; levels = c.store.inside.levels; portals = c.store.inside.portals } in
    subst (λ (v : StoreState). Acted (new_context_made (PortalContext c.args.name.now)) v (record { tree = c.create.new.self; owners = a.owners; levels = a.levels; portals = c.set_context.new.self }) c.args.space.now c.create.new.space x x commons commons (λ events. g.E.Emit.emits c.args.out.now events c.create.new.out)) c.store.view_is
    (context_acted a c.create.new.self c.set_context.new.self c.args.name.now c.own_name-title.result c.portals-parent.result c.in-Ok.context c.args.space.now c.create.new.space x commons (λ events. g.E.Emit.emits c.args.out.now events c.create.new.out) c.set_context.ensures.distinct
    c.in-Ok.ensures.number c.in-Ok.ensures.contexts c.create.ensures.current c.in-Ok.ensures.next c.create.ensures.moves.limit c.in-Ok.ensures.emits
    c.portals-parent.ensures.number c.own_name-title.ensures c.set_context.ensures.portals)

pub returns-in-Ok-clause-keeps : goal.returns-in-Ok-clause-keeps
returns-in-Ok-clause-keeps g c =
    let a : StoreState = record { tree = c.store.inside.tree; owners = c.store.inside.owners; levels = c.store.inside.levels; portals = c.store.inside.portals } in
    keeps_open (record a { tree = c.create.new.self }) a.owners c.set_context.new.self c.create.new.space
    (keeps_on a c.create.new.self c.args.space.now c.create.new.space (keeps_in _ _ _ _ _ c.store.view_is c.args.space.now c.requires.keeps) c.create.ensures.moves)

pub returns-in-Err-clause-keeps : goal.returns-in-Err-clause-keeps
returns-in-Err-clause-keeps g c =
    let a : StoreState = record { tree = c.store.inside.tree; owners = c.store.inside.owners; levels = c.store.inside.levels; portals = c.store.inside.portals } in
    keeps_on a c.create.new.self c.args.space.now c.create.new.space (keeps_in _ _ _ _ _ c.store.view_is c.args.space.now c.requires.keeps) c.create.ensures.moves

pub returns-in-Ok-clause-served : goal.returns-in-Ok-clause-served
returns-in-Ok-clause-served g c =
    left_through _ _ _ _ _ c.store.view_is (λ (account n left : ℕ) (contexts : Contexts). create_refusal left (codes "PortalContext") kind.Small true contexts ≡ None) c.args.space.now _ refl c.requires.keeps
    c.in-Ok.ensures.served

pub returns-in-Err-clause-cause : goal.returns-in-Err-clause-cause
returns-in-Err-clause-cause g c =
    left_through _ _ _ _ _ c.store.view_is (λ (account n left : ℕ) (contexts : Contexts). (c.in-Err.error ≡ Memory) ⊎ (create_refusal left (codes "PortalContext") kind.Small true contexts ≡ Some c.in-Err.error)) c.args.space.now _ refl c.requires.keeps
    c.in-Err.ensures.refused

pub returns-in-Err-clause-refused : goal.returns-in-Err-clause-refused
returns-in-Err-clause-refused g c x commons =
    let a : StoreState = record { tree = c.store.inside.tree; owners = c.store.inside.owners; levels = c.store.inside.levels; portals = c.store.inside.portals } in
    subst (λ (v : StoreState). Refused v (record { tree = c.create.new.self; owners = a.owners; levels = a.levels; portals = a.portals }) c.args.space.now c.create.new.space x x commons commons) c.store.view_is
    (refused_regions a c.create.new.self c.args.space.now c.create.new.space x commons c.in-Err.ensures.err c.in-Err.ensures.err_space)
