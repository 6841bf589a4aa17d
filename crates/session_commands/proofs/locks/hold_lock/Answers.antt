-- The owner holds a lock once more, or nothing changed.
use Rattle.session_commands.proofs.Base.{refl, ap}
use Rattle.session_commands.proofs.Words.{CommonState}
use Rattle.session_commands.proofs.Lemmas.{lock_not_taken, take_lock, take_lock_done, call_injected, said_nothing, handed}
use Rattle.session_commands.proofs.locks.hold_lock.Goals as goal

pub returns-in_err-next : goal.returns-in_err-next
returns-in_err-next g c = record {
  performed = λ role is. handed _ _ c.from_residual.ensures.1
      (call_injected (take_lock role c.args.object c.args.mode) _ _ _ c.next.ensures.counted refl c.requires.between.keeps refl (g.met.E.Emit.emits_none c.args.out.now) refl _ c.in_err-next.ensures.injected);
}

pub returns-in-Err : goal.returns-in-Err
returns-in-Err g c = record {
  performed = λ role is.
      lock_not_taken role c.args.object c.args.mode _ _ _ c.next.ensures.counted refl c.requires.between.keeps
      (ap (λ (m : CommonState). (c.args.shared.now.shelf.now, m)) c.in-Err.ensures.untouched)
      (said_nothing g.E.Emit.emits _ _ (g.met.E.Emit.emits_none c.args.out.now) c.in-Err.ensures.silent) c.in-Err.ensures.refused c.in_ok-next.ensures.goes
      c.lock.result c.in-Err.error _ c.in-Err.is c.lock.ensures.conflict c.lock.ensures.held c.lock_error.ensures.conflict c.lock_error.ensures.memory;
}

pub returns : goal.returns
returns g c = record {
  performed = λ role is.
      let space = c.args.shared.now.space.now in
      take_lock_done role c.args.object c.args.mode _ _ _ c.next.ensures.counted refl c.requires.between.keeps c.in_ok-next.ensures.goes c.lock.result _ c.in_default.is c.lock.ensures.conflict
      c.args.owner is
      c.in_default.ensures.alone.tree (c.in_default.ensures.alone.keeps space c.requires.between.keeps) (c.in_default.ensures.acted space c.args.shared.now.shelf.now);
}

pub lock-requires : goal.lock-requires
lock-requires g c = c.requires.between.serves
