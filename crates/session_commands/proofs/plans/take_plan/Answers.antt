use Rattle.session_commands.proofs.Base.{refl}
use Rattle.session_commands.proofs.Words.{plan_reference, OfLevel}
use Rattle.session_commands.proofs.Lemmas.{take, take_done, call_injected, call_wants, said_nothing, handed}
use Rattle.session_commands.proofs.plans.take_plan.Goals as goal

pub returns-in_err-next : goal.returns-in_err-next
returns-in_err-next g c = record {
  performed =
      handed _ _ c.from_residual.ensures.1
      (call_injected (take OfLevel plan_reference c.args.plan) _ _ _ c.next.ensures.counted refl c.requires.keeps refl (g.met.E.Emit.emits_none c.args.out.now) refl _ c.in_err-next.ensures.injected);
}

pub returns-in-Err : goal.returns-in-Err
returns-in-Err g c = record {
  performed =
      call_wants (take OfLevel plan_reference c.args.plan) _ _ _ c.next.ensures.counted refl c.requires.keeps refl
      (said_nothing g.E.Emit.emits _ _ (g.met.E.Emit.emits_none c.args.out.now) c.in-Err.ensures.silent) c.in-Err.ensures.refused c.in_ok-next.ensures.goes;
}

pub returns : goal.returns
returns g c = record {
  performed =
      let space = c.args.shared.now.space.now in
      take_done OfLevel plan_reference c.args.plan _ _ _ c.next.ensures.counted refl c.requires.keeps c.in_ok-next.ensures.goes (λ around. refl) c.args.owner c.requires.owner
      (c.in_default.ensures.alone c.args.shared.now.commons.now).tree ((c.in_default.ensures.alone c.args.shared.now.commons.now).keeps space c.requires.keeps) (c.in_default.ensures.acted space c.args.shared.now.shelf.now c.args.shared.now.commons.now);
}
