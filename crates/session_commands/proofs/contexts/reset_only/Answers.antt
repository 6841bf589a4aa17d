use Rattle.session_commands.proofs.Base.{refl, sym}
use Rattle.session_commands.proofs.Lemmas.{on_no_context, reset_only_performed, err_with, ok_with, silent_where, told_errors}
use Rattle.session_commands.proofs.contexts.reset_only.Goals as goal

pub returns-in_default : goal.returns-in_default
returns-in_default g c = record {
  performed =
      on_no_context c.args.name.now _ _ _ (sym (c.in_default.ensures.named c.args.shared.now.space.now))
      c.requires.between.keeps (g.met.E.Emit.emits_none c.args.out.now);
}

pub returns : goal.returns
returns g c = record {
  performed =
      told_errors _ _ c.map_err.ensures.cases
      (reset_only_performed c.args.name.now _ _ c.in-Some.at.number _ c.reset_only.result (sym (c.in-Some.ensures.named c.args.shared.now.space.now))
      c.requires.between.keeps refl
      (c.reset_only.ensures.alone c.args.shared.now.commons.now) (err_with _ c.reset_only.result c.args.shared.now.commons.now c.reset_only.ensures.refused) (silent_where g.E.Emit.emits c.reset_only.result c.args.out.now c.reset_only.new.out (g.met.E.Emit.emits_none c.args.out.now) c.reset_only.ensures.silent) c.reset_only.ensures.asked
      c.reset_only.ensures.answer (ok_with _ c.reset_only.result c.args.shared.now.commons.now c.reset_only.ensures.acted));
}

pub reset_only-requires-clause-stands : goal.reset_only-requires-clause-stands
reset_only-requires-clause-stands g c = (c.args.shared.now.commons.now, c.requires.between.stands)

pub reset_only-requires-clause-live : goal.reset_only-requires-clause-live
reset_only-requires-clause-live g c =
    c.in-Some.ensures.live c.args.shared.now.space.now c.args.shared.now.shelf.now c.args.shared.now.commons.now
    c.requires.between.stands
