use Rattle.portal_commands.proofs.Base.{None, codes, true, false, refl}
use Rattle.portal_commands.proofs.Words.{RowContext, Element, new_context_made, new_context_refused, CtxKind, context_done, context_not_made, does_make_context, said_nothing, still_injected, now, handed}
use Rattle.portal_commands.proofs.Lemmas.{row_is_new, has_context, row_on, way_context}
use Rattle.portal_commands.proofs.steps.make_row.Goals as goal

pub returns-in_err-next-clause-performed : goal.returns-in_err-next-clause-performed
returns-in_err-next-clause-performed g c =
    handed _ _ c.from_residual.ensures.1
    (still_injected (Element.MakeContext (RowContext c.args.name.now)) (new_context_refused (RowContext c.args.name.now)) (new_context_made (RowContext c.args.name.now)) (does_make_context (RowContext c.args.name.now)) _ _ _ c.next.ensures.counted refl c.requires.making.between.keeps refl (g.met.E.Emit.emits_none c.args.out.now) refl _ c.in_err-next.ensures.injected)

pub returns-clause-performed : goal.returns-clause-performed
returns-clause-performed g c =
    context_done (RowContext c.args.name.now) (codes "ExprContext") CtxKind.Small (now c.args.store.now c.args.shared.now) _ (let context = way_context c.args.name.now true false _ c.requires.making.way in row_is_new c.args.name.now (now c.args.store.now c.args.shared.now) context.0 context.1) _ c.next.ensures.counted c.in_ok-next.ensures.goes c.make_row_context.ensures.keeps c.make_row_context.ensures.moves
    c.in_default.ensures.served (c.in_default.ensures.acted c.args.shared.now.shelf.now c.args.shared.now.commons.now) c.in_default.ensures.asked

pub returns-clause-making : goal.returns-clause-making
returns-clause-making g c = row_on c.args.name.now (now c.args.store.now c.args.shared.now) _ _ None (returns-clause-performed g c) c.requires.making refl

pub returns-in-Err-clause-performed : goal.returns-in-Err-clause-performed
returns-in-Err-clause-performed g c =
    context_not_made (RowContext c.args.name.now) (codes "ExprContext") CtxKind.Small (now c.args.store.now c.args.shared.now) _ (let context = way_context c.args.name.now true false _ c.requires.making.way in row_is_new c.args.name.now (now c.args.store.now c.args.shared.now) context.0 context.1) _ c.next.ensures.counted c.in_ok-next.ensures.goes c.make_row_context.ensures.keeps c.make_row_context.ensures.moves
    (c.in-Err.ensures.refused c.args.shared.now.shelf.now c.args.shared.now.commons.now)
    (said_nothing g.E.Emit.emits c.args.out.now c.make_row_context.new.out (g.met.E.Emit.emits_none c.args.out.now) c.in-Err.ensures.silent)
    _ _ c.in-Err.ensures.cause c.call_error.ensures.memory c.call_error.ensures.own c.in-Err.ensures.err_asked

pub make_row_context-requires-clause-stands : goal.make_row_context-requires-clause-stands
make_row_context-requires-clause-stands g c = (c.args.shared.now.shelf.now, (c.args.shared.now.commons.now, c.requires.making.between.stands))

pub make_row_context-requires-clause-context : goal.make_row_context-requires-clause-context
make_row_context-requires-clause-context g c = has_context _ c.args.shared.now.space.now c.args.name.now true false c.requires.making.way
