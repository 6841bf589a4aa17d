use Rattle.session_core.proofs.Base.{codes, refl}
use Rattle.session_core.proofs.Words.{CtxKind, Element, LevelContext, new_context_made, new_context_refused, now, context_done, context_not_made, does_make_context, said_nothing, still_injected, handed}
use Rattle.session_core.proofs.Lemmas.{seen, stands_of, level_is_new}
use Rattle.session_core.proofs.session.Session.make_context_of_level.Goals as goal

pub returns-in_err-next : goal.returns-in_err-next
returns-in_err-next g c = record {
  performed =
      handed _ _ c.from_residual.ensures.1
      (still_injected (Element.MakeContext LevelContext) (new_context_refused LevelContext) (new_context_made LevelContext) (does_make_context LevelContext) _ _ _ c.next.ensures.counted refl c.requires.between.keeps refl (g.met.E.Emit.emits_none c.args.out.now) refl _ c.in_err-next.ensures.injected);
}

pub returns : goal.returns
returns g c = record {
  performed =
      seen c.self.inside.store c.args.self.now c.self.view_is 1 _ c.args.shared.now _ _ _
      (context_done LevelContext (codes "CurTransactionContext") CtxKind.Default (now c.self.inside.store c.args.shared.now) _ (level_is_new (now c.self.inside.store c.args.shared.now)) _ c.next.ensures.counted c.in_ok-next.ensures.goes c.make_level_context.ensures.keeps c.make_level_context.ensures.moves
      c.in_default.ensures.served (c.in_default.ensures.acted c.args.shared.now.shelf.now c.args.shared.now.commons.now) c.in_default.ensures.asked);
}

pub returns-in-Err : goal.returns-in-Err
returns-in-Err g c = record {
  performed =
      seen c.self.inside.store c.args.self.now c.self.view_is 1 _ c.args.shared.now _ _ _
      (context_not_made LevelContext (codes "CurTransactionContext") CtxKind.Default (now c.self.inside.store c.args.shared.now) _ (level_is_new (now c.self.inside.store c.args.shared.now)) _ c.next.ensures.counted c.in_ok-next.ensures.goes c.make_level_context.ensures.keeps c.make_level_context.ensures.moves
      (c.in-Err.ensures.refused c.args.shared.now.shelf.now c.args.shared.now.commons.now)
      (said_nothing g.E.Emit.emits c.args.out.now c.make_level_context.new.out (g.met.E.Emit.emits_none c.args.out.now) c.in-Err.ensures.silent)
      _ _ c.in-Err.ensures.cause c.call_error.ensures.memory c.call_error.ensures.own c.in-Err.ensures.err_asked);
}

pub make_level_context-requires-clause-stands : goal.make_level_context-requires-clause-stands
make_level_context-requires-clause-stands g c =
    (c.args.shared.now.shelf.now, (c.args.shared.now.commons.now, stands_of c.self.inside.store c.args.self.now c.self.view_is c.args.shared.now.space.now c.args.shared.now.shelf.now c.args.shared.now.commons.now c.requires.between.stands))
