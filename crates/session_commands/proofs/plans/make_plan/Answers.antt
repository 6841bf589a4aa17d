use Rattle.session_commands.proofs.Base.{refl, sym, subst, ap, ◌∙◌, []}
use Rattle.session_commands.proofs.Words.{Calls}
use Rattle.session_commands.proofs.Lemmas.{answer_of, make_done, make_injected, make_refused, make_taken, err_of, handed}
use Rattle.pgs_step.specs.declared.errors.Error.TheVariants as error
use Rattle.session_commands.proofs.plans.make_plan.Goals as goal

pub returns-then-has_plan : goal.returns-then-has_plan
returns-then-has_plan g c = record {
  performed =
      make_taken c.args.plan _ _ c.requires.between.keeps (g.met.E.Emit.emits_none c.args.out.now)
      (sym (c.has_plan.ensures c.args.shared.now.space.now) ∙ c.if-has_plan.true);
}

pub returns-in_err-next : goal.returns-in_err-next
returns-in_err-next g c = record {
  performed =
      handed _ _ c.from_residual.ensures.1
      (make_injected c.args.plan _ _ _ c.requires.between.keeps (sym (c.has_plan.ensures c.args.shared.now.space.now) ∙ c.if-has_plan.false)
      c.next.ensures.counted refl refl refl (g.met.E.Emit.emits_none c.args.out.now) _ c.in_err-next.ensures.injected);
}

pub returns : goal.returns
returns g c = record {
  performed =
      make_done c.args.plan _ _ _ c.requires.between.keeps (sym (c.has_plan.ensures c.args.shared.now.space.now) ∙ c.if-has_plan.false)
      c.next.ensures.counted c.in_ok-next.ensures.goes
      (answer_of c.make_plan.result _ c.in_default.is c.make_plan.ensures.served)
      (answer_of c.make_plan.result _ c.in_default.is c.make_plan.ensures.acted c.args.shared.now.shelf.now c.args.shared.now.commons.now)
      (c.make_plan.ensures.alone c.args.shared.now.commons.now)
      (answer_of c.make_plan.result _ c.in_default.is c.make_plan.ensures.asked);
}

pub returns-in-Err : goal.returns-in-Err
returns-in-Err g c = record {
  performed =
      make_refused c.args.plan _ _ _ c.requires.between.keeps (sym (c.has_plan.ensures c.args.shared.now.space.now) ∙ c.if-has_plan.false)
      c.next.ensures.counted
      (err_of c.make_plan.result _ c.in-Err.is c.make_plan.ensures.refused c.args.shared.now.shelf.now c.args.shared.now.commons.now)
      (c.make_plan.ensures.alone c.args.shared.now.commons.now)
      (subst (λ o. g.E.Emit.emits c.args.out.now [] o) (sym (err_of c.make_plan.result _ c.in-Err.is c.make_plan.ensures.silent)) (g.met.E.Emit.emits_none c.args.out.now))
      c.in-Err.refusal c.call_error.result c.in_ok-next.ensures.goes
      (λ e. c.call_error.ensures.memory e ∙ ap (λ (calls : Calls). error.NoMemory calls.count) c.next.ensures.counted) c.call_error.ensures.own
      c.in-Err.ensures.cause c.in-Err.ensures.err_asked;
}

pub make_plan-requires-clause-stands : goal.make_plan-requires-clause-stands
make_plan-requires-clause-stands g c = (c.args.shared.now.shelf.now, (c.args.shared.now.commons.now, c.requires.between.stands))
