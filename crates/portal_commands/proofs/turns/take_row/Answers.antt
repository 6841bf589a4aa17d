use Rattle.portal_commands.proofs.Base.{refl}
use Rattle.portal_commands.proofs.Words.{InRow, handed}
use Rattle.portal_commands.proofs.Lemmas.{memory_done, memory_injected, memory_nowhere, memory_refused}
use Rattle.portal_commands.proofs.turns.take_row.Goals as goal

pub returns-in_err-next : goal.returns-in_err-next
returns-in_err-next g c = record {
  performed =
      handed _ _ c.from_residual.ensures.1
      (memory_injected (InRow c.args.portal.now.name) 64 _ _ _ c.next.ensures.counted refl c.requires.fetching.1.between.keeps refl (g.met.E.Emit.emits_none c.args.out.now) refl _ c.in_err-next.ensures.injected);
}

pub returns-in_default : goal.returns-in_default
returns-in_default g c = record { performed = memory_nowhere (InRow c.args.portal.now.name) 64 _ _ _ c.next.ensures.counted c.in_ok-next.ensures.goes (c.in_default.ensures.context c.args.portal.now.name c.requires.place c.args.shared.now.space.now) refl refl c.requires.fetching.1.between.keeps refl (g.met.E.Emit.emits_none c.args.out.now) }

pub alloc_at-requires-clause-stands : goal.alloc_at-requires-clause-stands
alloc_at-requires-clause-stands g c = (c.args.shared.now.shelf.now, (c.args.shared.now.commons.now, c.requires.fetching.1.between.stands))

pub alloc_at-requires-clause-live : goal.alloc_at-requires-clause-live
alloc_at-requires-clause-live g c = c.in-Some.ensures.live c.args.portal.now.name c.requires.place c.args.shared.now.space.now c.args.shared.now.shelf.now c.args.shared.now.commons.now c.requires.fetching.1.between.stands

pub returns-in-Err : goal.returns-in-Err
returns-in-Err g c = record {
  performed =
      memory_refused (InRow c.args.portal.now.name) 64 _ _ _ c.next.ensures.counted c.in_ok-next.ensures.goes c.in-Some.at.number (c.in-Some.ensures.context c.args.portal.now.name c.requires.place c.args.shared.now.space.now)
      (c.in-Err.ensures.refused c.args.shared.now.shelf.now c.args.shared.now.commons.now) (g.met.E.Emit.emits_none c.args.out.now) (c.alloc_at.ensures.alone c.args.shared.now.commons.now) c.in-Err.ensures.err_space
      _ _ c.in-Err.ensures.cause c.call_error.ensures.memory c.call_error.ensures.own;
}

pub returns : goal.returns
returns g c = record {
  performed =
      memory_done (InRow c.args.portal.now.name) 64 _ _ _ c.next.ensures.counted c.in_ok-next.ensures.goes c.in-Some.at.number (c.in-Some.ensures.context c.args.portal.now.name c.requires.place c.args.shared.now.space.now)
      c.in_default-alloc_at.ensures.served (c.in_default-alloc_at.ensures.acted c.args.shared.now.shelf.now c.args.shared.now.commons.now) (g.met.E.Emit.emits_none c.args.out.now)
      (c.alloc_at.ensures.alone c.args.shared.now.commons.now) c.in_default-alloc_at.ensures.asked;
}
