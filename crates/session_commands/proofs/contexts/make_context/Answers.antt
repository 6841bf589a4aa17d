use Rattle.session_commands.proofs.Base.{refl, sym, subst, ◌∙◌, []}
use Rattle.session_commands.proofs.Words.{most_calls, now}
use Rattle.session_commands.proofs.Lemmas.{answer_of, make_nowhere, alone_same, err_of, told_as, nothing_changed, handed}
use Rattle.pgs_step.specs.declared.errors.Error.TheVariants as error
use Rattle.session_commands.proofs.OnOthers.{make_done, make_injected, make_refused, make_taken}
use Rattle.session_commands.proofs.contexts.make_context.Goals as goal

pub returns-then-is_taken : goal.returns-then-is_taken
returns-then-is_taken g c = record {
  performed =
      make_taken c.args.name c.args.parent.now _ _ _ c.requires.between.keeps (g.met.E.Emit.emits_none c.args.out.now)
      (sym (c.is_taken.ensures c.args.shared.now.space.now) ∙ c.if-is_taken.true);
}

pub returns-in_default : goal.returns-in_default
returns-in_default g c = record {
  performed =
      make_nowhere c.args.name c.args.parent.now _ _ (now c.args.store.now c.args.shared.now) _ c.requires.between.keeps
      (sym (c.is_taken.ensures c.args.shared.now.space.now) ∙ c.if-is_taken.false) (sym (c.in_default.ensures.named c.args.shared.now.space.now)) (g.met.E.Emit.emits_none c.args.out.now);
}

pub returns-in_err-next : goal.returns-in_err-next
returns-in_err-next g c = record {
  performed =
      handed _ _ c.from_residual.ensures.1
      (told_as most_calls _ _ _ _ _ _ c.in_err-next.ensures.injected.0
      (make_injected c.args.name c.args.parent.now _ _ _ _ c.requires.between.keeps (sym (c.is_taken.ensures c.args.shared.now.space.now) ∙ c.if-is_taken.false)
      c.in-Some.parent.number (sym (c.in-Some.ensures.named c.args.shared.now.space.now)) c.next.ensures.counted (alone_same _ c.args.shared.now.space.now c.args.shared.now.commons.now c.requires.between.keeps)
      (nothing_changed _ _ c.args.shared.now.space.now c.args.shared.now.shelf.now c.args.shared.now.commons.now refl) (g.met.E.Emit.emits_none c.args.out.now) c.in_err-next.ensures.injected.1 refl));
}

pub returns : goal.returns
returns g c = record {
  performed =
      make_done c.args.name c.args.parent.now _ _ _ _ c.requires.between.keeps (sym (c.is_taken.ensures c.args.shared.now.space.now) ∙ c.if-is_taken.false)
      c.in-Some.parent.number (sym (c.in-Some.ensures.named c.args.shared.now.space.now)) c.next.ensures.counted (c.create.ensures.alone c.args.shared.now.commons.now) c.in_ok-next.ensures.goes
      (rw c.kind_of-kind.ensures at (answer_of c.create.result _ c.in_default-create.is c.create.ensures.served))
      (rw c.kind_of-kind.ensures at (answer_of c.create.result _ c.in_default-create.is c.create.ensures.acted c.args.shared.now.shelf.now c.args.shared.now.commons.now))
      (rw c.kind_of-kind.ensures at (answer_of c.create.result _ c.in_default-create.is c.create.ensures.asked));
}

pub returns-in-Err : goal.returns-in-Err
returns-in-Err g c = record {
  performed =
      make_refused c.args.name c.args.parent.now _ _ _ _ c.requires.between.keeps (sym (c.is_taken.ensures c.args.shared.now.space.now) ∙ c.if-is_taken.false)
      c.in-Some.parent.number (sym (c.in-Some.ensures.named c.args.shared.now.space.now)) c.next.ensures.counted (c.create.ensures.alone c.args.shared.now.commons.now)
      (err_of c.create.result _ c.in-Err.is c.create.ensures.refused c.args.shared.now.shelf.now c.args.shared.now.commons.now)
      (subst (λ o. g.E.Emit.emits c.args.out.now [] o) (sym (err_of c.create.result _ c.in-Err.is c.create.ensures.silent)) (g.met.E.Emit.emits_none c.args.out.now)) c.in-Err.refusal c.call_error.result c.in_ok-next.ensures.goes (rw c.kind_of-kind.ensures at c.in-Err.ensures.cause) c.call_error.ensures.memory c.call_error.ensures.own (rw c.kind_of-kind.ensures at c.in-Err.ensures.err_asked);
}

pub create-requires-clause-stands : goal.create-requires-clause-stands
create-requires-clause-stands g c =
    (c.args.shared.now.shelf.now, (c.args.shared.now.commons.now, c.requires.between.stands))

pub create-requires-clause-live : goal.create-requires-clause-live
create-requires-clause-live g c =
    c.in-Some.ensures.live c.args.shared.now.space.now c.args.shared.now.shelf.now c.args.shared.now.commons.now
    c.requires.between.stands
