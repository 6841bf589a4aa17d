-- The kind has a key more, or nothing changed.
use Rattle.session_commands.proofs.Base.{refl, ap}
use Rattle.session_commands.proofs.Words.{CommonState}
use Rattle.session_commands.proofs.Lemmas.{take_named, take_named_done, take_named_refused, call_injected, said_nothing, handed}
use Rattle.session_commands.proofs.extensions.take_extension.Goals as goal

pub returns-in_err-next : goal.returns-in_err-next
returns-in_err-next g c = record {
  performed = λ name found. handed _ _ c.from_residual.ensures.1
      (call_injected (take_named name c.args.key) _ _ _ c.next.ensures.counted refl c.requires.keeps refl (g.met.E.Emit.emits_none c.args.out.now) refl _ c.in_err-next.ensures.injected);
}

pub returns-in-Err : goal.returns-in-Err
returns-in-Err g c = record {
  performed = λ name found.
      take_named_refused name c.args.kind _ found c.requires.kind c.args.key _ _ c.next.ensures.counted refl c.requires.keeps
      (ap (λ (m : CommonState). (c.args.shared.now.shelf.now, m)) c.in-Err.ensures.untouched)
      (said_nothing g.E.Emit.emits _ _ (g.met.E.Emit.emits_none c.args.out.now) c.in-Err.ensures.silent) c.in-Err.ensures.refused c.in_ok-next.ensures.goes
      c.take_extension.result c.in-Err.error _ c.in-Err.is c.take_extension.ensures.full c.kind_error.ensures.full c.kind_error.ensures.memory;
}

pub returns : goal.returns
returns g c = record {
  performed = λ name found.
      let space = c.args.shared.now.space.now in
      take_named_done name c.args.kind _ found c.requires.kind c.args.key _ _ c.next.ensures.counted refl c.requires.keeps c.in_ok-next.ensures.goes c.take_extension.result _ c.in_default.is c.take_extension.ensures.full
      c.args.owner c.requires.owner
      c.in_default.ensures.alone.tree (c.in_default.ensures.alone.keeps space c.requires.keeps) (c.in_default.ensures.acted space c.args.shared.now.shelf.now);
}

pub take_extension-requires-clause-serves : goal.take_extension-requires-clause-serves
take_extension-requires-clause-serves g c = c.requires.serves
