use Rattle.portal_commands.proofs.Base.{None, codes, false, refl}
use Rattle.portal_commands.proofs.Words.{PortalContext, Element, new_context_made, new_context_refused, CtxKind, context_done, context_not_made, does_make_context, said_nothing, still_injected, now, handed}
use Rattle.portal_commands.proofs.Lemmas.{portal_is_new, context_on, has_name}
use Rattle.portal_commands.proofs.steps.make_context.Goals as goal

pub returns-in_err-next-clause-performed : goal.returns-in_err-next-clause-performed
returns-in_err-next-clause-performed g c =
    handed _ _ c.from_residual.ensures.1
    (still_injected (Element.MakeContext (PortalContext c.args.name.now)) (new_context_refused (PortalContext c.args.name.now)) (new_context_made (PortalContext c.args.name.now)) (does_make_context (PortalContext c.args.name.now)) _ _ _ c.next.ensures.counted refl c.requires.making.between.keeps refl (g.met.E.Emit.emits_none c.args.out.now) refl _ c.in_err-next.ensures.injected)

pub returns-clause-performed : goal.returns-clause-performed
returns-clause-performed g c =
    context_done (PortalContext c.args.name.now) (codes "PortalContext") CtxKind.Small (now c.args.store.now c.args.shared.now) _ (portal_is_new c.args.name.now (now c.args.store.now c.args.shared.now)) _ c.next.ensures.counted c.in_ok-next.ensures.goes c.make_portal_context.ensures.keeps c.make_portal_context.ensures.moves
    c.in_default.ensures.served (c.in_default.ensures.acted c.args.shared.now.shelf.now c.args.shared.now.commons.now) c.in_default.ensures.asked

pub returns-clause-making : goal.returns-clause-making
returns-clause-making g c = context_on c.args.name.now (now c.args.store.now c.args.shared.now) _ _ None (returns-clause-performed g c) c.requires.making refl

pub returns-in-Err-clause-performed : goal.returns-in-Err-clause-performed
returns-in-Err-clause-performed g c =
    context_not_made (PortalContext c.args.name.now) (codes "PortalContext") CtxKind.Small (now c.args.store.now c.args.shared.now) _ (portal_is_new c.args.name.now (now c.args.store.now c.args.shared.now)) _ c.next.ensures.counted c.in_ok-next.ensures.goes c.make_portal_context.ensures.keeps c.make_portal_context.ensures.moves
    (c.in-Err.ensures.refused c.args.shared.now.shelf.now c.args.shared.now.commons.now)
    (said_nothing g.E.Emit.emits c.args.out.now c.make_portal_context.new.out (g.met.E.Emit.emits_none c.args.out.now) c.in-Err.ensures.silent)
    _ _ c.in-Err.ensures.cause c.call_error.ensures.memory c.call_error.ensures.own c.in-Err.ensures.err_asked

pub make_portal_context-requires-clause-stands : goal.make_portal_context-requires-clause-stands
make_portal_context-requires-clause-stands g c = (c.args.shared.now.shelf.now, (c.args.shared.now.commons.now, c.requires.making.between.stands))

pub make_portal_context-requires-clause-there : goal.make_portal_context-requires-clause-there
make_portal_context-requires-clause-there g c = has_name _ c.args.shared.now.space.now c.args.name.now false false false c.requires.making.way
