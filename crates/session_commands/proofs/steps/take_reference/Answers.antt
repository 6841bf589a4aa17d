use Rattle.session_commands.proofs.Base.{refl}
use Rattle.session_commands.proofs.Words.{now}
use Rattle.session_commands.proofs.Lemmas.{take, take_done, unkept_free, call_injected, call_wants, said_nothing, handed}
use Rattle.session_commands.proofs.steps.take_reference.Goals as goal

pub returns-in_err-next : goal.returns-in_err-next
returns-in_err-next g c = record {
  performed = λ role is. handed _ _ c.from_residual.ensures.1
      (call_injected (take role c.args.kind c.args.key) _ _ _ c.next.ensures.counted refl c.requires.keeps refl (g.met.E.Emit.emits_none c.args.out.now) refl _ c.in_err-next.ensures.injected);
}

pub returns-in-Err : goal.returns-in-Err
returns-in-Err g c = record {
  performed = λ role is.
      call_wants (take role c.args.kind c.args.key) _ _ _ c.next.ensures.counted refl c.requires.keeps refl
      (said_nothing g.E.Emit.emits _ _ (g.met.E.Emit.emits_none c.args.out.now) c.in-Err.ensures.silent) c.in-Err.ensures.refused c.in_ok-next.ensures.goes;
}

pub returns : goal.returns
returns g c = record {
  performed = λ role is.
      let space = c.args.shared.now.space.now in
      take_done role c.args.kind c.args.key _ _ _ c.next.ensures.counted refl c.requires.keeps c.in_ok-next.ensures.goes (unkept_free c.args.kind (now c.args.store.now c.args.shared.now) c.requires.kind.unkept) c.args.owner is
      (c.in_default.ensures.alone c.args.shared.now.commons.now).tree ((c.in_default.ensures.alone c.args.shared.now.commons.now).keeps space c.requires.keeps) (c.in_default.ensures.acted space c.args.shared.now.shelf.now c.args.shared.now.commons.now);
}
