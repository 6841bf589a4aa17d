use Rattle.session_commands.proofs.Base.{refl}
use Rattle.session_commands.proofs.Words.{now}
use Rattle.session_commands.proofs.Lemmas.{touch, touched, call_done, call_injected, call_wants, said_nothing, handed}
use Rattle.session_commands.proofs.OnFiles.{is_missing}
use Rattle.session_commands.proofs.items.touch.Goals as goal

pub returns-then-not-is_open : goal.returns-then-not-is_open
returns-then-not-is_open g c = record {
  performed =
      is_missing c.args.file (now c.args.store.now c.args.shared.now) c.requires.between.keeps c.is_open.result
      (c.is_open.ensures.session c.args.shared.now.space.now) _
      (g.met.E.Emit.emits_none c.args.out.now) c.if-not-is_open.true;
}

pub returns-in_err-next : goal.returns-in_err-next
returns-in_err-next g c = record {
  performed =
      handed _ _ c.from_residual.ensures.1
      (touched c.args.file (now c.args.store.now c.args.shared.now) c.requires.between.keeps c.is_open.result
      (c.is_open.ensures.session c.args.shared.now.space.now)
      c.if-not-is_open.false _ _ _
      (call_injected (touch c.args.file) _ _ _ c.next.ensures.counted refl c.requires.between.keeps refl (g.met.E.Emit.emits_none c.args.out.now) refl _ c.in_err-next.ensures.injected));
}

pub returns-in-Err : goal.returns-in-Err
returns-in-Err g c = record {
  performed =
      touched c.args.file (now c.args.store.now c.args.shared.now) c.requires.between.keeps c.is_open.result (c.is_open.ensures.session c.args.shared.now.space.now) c.if-not-is_open.false _ _ _
      (call_wants (touch c.args.file) _ _ _ c.next.ensures.counted refl c.requires.between.keeps refl
      (said_nothing g.E.Emit.emits _ _ (g.met.E.Emit.emits_none c.args.out.now) c.in-Err.ensures.silent) c.in-Err.ensures.refused c.in_ok-next.ensures.goes);
}

pub returns : goal.returns
returns g c = record {
  performed =
      let space = c.args.shared.now.space.now in
      touched c.args.file (now c.args.store.now c.args.shared.now) c.requires.between.keeps c.is_open.result (c.is_open.ensures.session space) c.if-not-is_open.false _ _ _
      (call_done (touch c.args.file) _ _ _ c.next.ensures.counted refl c.requires.between.keeps c.in_ok-next.ensures.goes (λ around. refl)
      (c.in_default.ensures.alone c.args.shared.now.commons.now).tree ((c.in_default.ensures.alone c.args.shared.now.commons.now).keeps space c.requires.between.keeps) (c.in_default.ensures.acted space c.args.shared.now.shelf.now c.args.shared.now.commons.now));
}
