use Rattle.portal_commands.proofs.Base.{None, true, false, refl}
use Rattle.portal_commands.proofs.Words.{InPortal, now, handed}
use Rattle.portal_commands.proofs.Lemmas.{memory_done, memory_injected, memory_refused, has_context, memory_on}
use Rattle.portal_commands.proofs.steps.take_memory.Goals as goal

pub returns-in_err-next-clause-performed : goal.returns-in_err-next-clause-performed
returns-in_err-next-clause-performed g c =
    handed _ _ c.from_residual.ensures.1
    (memory_injected (InPortal c.args.name.now) 200 _ _ _ c.next.ensures.counted refl c.requires.making.between.keeps refl (g.met.E.Emit.emits_none c.args.out.now) refl _ c.in_err-next.ensures.injected)

pub returns-clause-performed : goal.returns-clause-performed
returns-clause-performed g c =
    memory_done (InPortal c.args.name.now) 200 _ _ _ c.next.ensures.counted c.in_ok-next.ensures.goes c.context_of-at.result.number (c.context_of-at.ensures.context c.args.shared.now.space.now)
    c.in_default.ensures.served (c.in_default.ensures.acted c.args.shared.now.shelf.now c.args.shared.now.commons.now) (g.met.E.Emit.emits_none c.args.out.now)
    (c.alloc_at.ensures.alone c.args.shared.now.commons.now) c.in_default.ensures.asked

pub returns-clause-making : goal.returns-clause-making
returns-clause-making g c = memory_on c.args.name.now (now c.args.store.now c.args.shared.now) _ _ None 200 (returns-clause-performed g c) c.requires.making refl

pub returns-in-Err-clause-performed : goal.returns-in-Err-clause-performed
returns-in-Err-clause-performed g c =
    memory_refused (InPortal c.args.name.now) 200 _ _ _ c.next.ensures.counted c.in_ok-next.ensures.goes c.context_of-at.result.number (c.context_of-at.ensures.context c.args.shared.now.space.now)
    (c.in-Err.ensures.refused c.args.shared.now.shelf.now c.args.shared.now.commons.now) (g.met.E.Emit.emits_none c.args.out.now) (c.alloc_at.ensures.alone c.args.shared.now.commons.now) c.in-Err.ensures.err_space
    _ _ c.in-Err.ensures.cause c.call_error.ensures.memory c.call_error.ensures.own

pub context_of-at-requires : goal.context_of-at-requires
context_of-at-requires g c = record { there = has_context _ c.args.shared.now.space.now c.args.name.now true false c.requires.making.way }

pub alloc_at-requires-clause-stands : goal.alloc_at-requires-clause-stands
alloc_at-requires-clause-stands g c = (c.args.shared.now.shelf.now, (c.args.shared.now.commons.now, c.requires.making.between.stands))

pub alloc_at-requires-clause-live : goal.alloc_at-requires-clause-live
alloc_at-requires-clause-live g c = c.context_of-at.ensures.live c.args.shared.now.space.now c.args.shared.now.shelf.now c.args.shared.now.commons.now c.requires.making.between.stands
