use Rattle.session_commands.proofs.Base.{refl, sym, subst, ap, ◌∙◌, []}
use Rattle.session_commands.proofs.Words.{Calls, most_calls}
use Rattle.session_commands.proofs.Lemmas.{on_no_context, answer_of, register_done, register_injected, register_refused, alone_same, both_still, err_of, told_as, nothing_changed, handed}
use Rattle.pgs_step.specs.declared.errors.Error.TheVariants as error
use Rattle.session_commands.proofs.contexts.register.Goals as goal

pub returns-in_default : goal.returns-in_default
returns-in_default g c = record {
  performed =
      on_no_context c.args.name.now _ _ _ (sym (c.in_default.ensures.named c.args.shared.now.space.now))
      c.requires.between.keeps (g.met.E.Emit.emits_none c.args.out.now);
}

pub returns-in_err-next : goal.returns-in_err-next
returns-in_err-next g c = record {
  performed =
      handed _ _ c.from_residual.ensures.1
      (told_as most_calls _ _ _ _ _ _ c.in_err-next.ensures.injected.0
      (register_injected c.args.name.now _ _ c.in-Some.at.number _ (sym (c.in-Some.ensures.named c.args.shared.now.space.now)) c.requires.between.keeps (alone_same _ c.args.shared.now.space.now c.args.shared.now.commons.now c.requires.between.keeps) refl
      c.next.ensures.counted (nothing_changed _ _ c.args.shared.now.space.now c.args.shared.now.shelf.now c.args.shared.now.commons.now refl) (g.met.E.Emit.emits_none c.args.out.now) c.in_err-next.ensures.injected.1));
}

pub returns-in-Err : goal.returns-in-Err
returns-in-Err g c = record {
  performed =
      register_refused c.args.name.now _ _ c.in-Some.at.number _ (sym (c.in-Some.ensures.named c.args.shared.now.space.now)) c.requires.between.keeps (c.register.ensures.alone c.args.shared.now.space.now c.args.shared.now.commons.now c.requires.between.keeps) refl
      c.next.ensures.counted (both_still _ _ c.args.shared.now.space.now _ _ c.args.shared.now.commons.now (err_of c.register.result _ c.in-Err.is c.register.ensures.err) (err_of c.register.result _ c.in-Err.is c.register.ensures.err_shelf))
      (subst (λ o. g.E.Emit.emits c.args.out.now [] o) (sym (err_of c.register.result _ c.in-Err.is c.register.ensures.silent)) (g.met.E.Emit.emits_none c.args.out.now)) c.register.result c.in-Err.refusal c.register_error.result c.in_ok-next.ensures.goes c.in-Err.is c.register.ensures.no_hook
      c.register_error.ensures.none (λ e. c.register_error.ensures.memory e ∙ ap (λ (calls : Calls). error.NoMemory calls.count) c.next.ensures.counted);
}

pub returns : goal.returns
returns g c = record {
  performed =
      register_done c.args.name.now _ _ c.in-Some.at.number _ (sym (c.in-Some.ensures.named c.args.shared.now.space.now)) c.requires.between.keeps (c.register.ensures.alone c.args.shared.now.space.now c.args.shared.now.commons.now c.requires.between.keeps) refl
      c.next.ensures.counted c.register.result _ c.in_ok-next.ensures.goes c.in_default-register.is c.register.ensures.no_hook (answer_of c.register.result _ c.in_default-register.is c.register.ensures.acted c.args.shared.now.space.now c.args.shared.now.commons.now);
}

pub register-requires-clause-stands : goal.register-requires-clause-stands
register-requires-clause-stands g c =
    (c.args.shared.now.space.now, (c.args.shared.now.commons.now, c.requires.between.stands))

pub register-requires-clause-live : goal.register-requires-clause-live
register-requires-clause-live g c =
    c.in-Some.ensures.live c.args.shared.now.space.now c.args.shared.now.shelf.now c.args.shared.now.commons.now
    c.requires.between.stands
