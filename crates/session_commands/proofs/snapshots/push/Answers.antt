-- The snapshot is the newest active one, or nothing changed.
use Rattle.session_commands.proofs.Base.{refl}
use Rattle.session_commands.proofs.Lemmas.{one_call, push, call_done, call_injected, call_wants, said_nothing, handed}
use Rattle.session_commands.proofs.snapshots.push.Goals as goal

pub returns-in_err-next : goal.returns-in_err-next
returns-in_err-next g c = record {
  performed =
      handed _ _ c.from_residual.ensures.1
      (one_call (call_injected (push c.args.snapshot) _ _ _ c.next.ensures.counted refl c.requires.between.keeps refl (g.met.E.Emit.emits_none c.args.out.now) refl _ c.in_err-next.ensures.injected));
}

pub returns-in-Err : goal.returns-in-Err
returns-in-Err g c = record {
  performed =
      one_call (call_wants (push c.args.snapshot) _ _ _ c.next.ensures.counted refl c.requires.between.keeps refl
      (said_nothing g.E.Emit.emits _ _ (g.met.E.Emit.emits_none c.args.out.now) c.in-Err.ensures.silent)
      (c.in-Err.ensures.refused c.args.shared.now.space.now c.args.shared.now.shelf.now c.args.shared.now.commons.now).store c.in_ok-next.ensures.goes);
}

pub returns : goal.returns
returns g c = record {
  performed =
      let space = c.args.shared.now.space.now in
      one_call (call_done (push c.args.snapshot) _ _ _ c.next.ensures.counted refl c.requires.between.keeps c.in_ok-next.ensures.goes (λ around. refl)
      (c.push.ensures.alone c.args.shared.now.commons.now).tree ((c.push.ensures.alone c.args.shared.now.commons.now).keeps space c.requires.between.keeps)
      (c.in_default.ensures.acted space c.args.shared.now.shelf.now c.args.shared.now.commons.now));
}
