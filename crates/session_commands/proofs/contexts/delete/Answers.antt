use Rattle.session_commands.proofs.Base.{refl, sym}
use Rattle.session_commands.proofs.Lemmas.{on_no_context, delete_performed, err_with, ok_with, silent_where, told_errors}
use Rattle.session_commands.proofs.contexts.delete.Goals as goal

pub returns-in_default : goal.returns-in_default
returns-in_default g c = record {
  performed =
      on_no_context c.args.name.now _ _ _ (sym (c.in_default.ensures.named c.args.shared.now.space.now))
      c.requires.between.keeps (g.met.E.Emit.emits_none c.args.out.now);
}

pub returns : goal.returns
returns g c = record {
  performed =
      told_errors _ _ c.map_err.ensures.cases
      (delete_performed c.args.name.now _ _ c.in-Some.at.number _ c.delete.result (sym (c.in-Some.ensures.named c.args.shared.now.space.now))
      c.requires.between.keeps refl
      (c.delete.ensures.alone c.args.shared.now.commons.now) (err_with _ c.delete.result c.args.shared.now.commons.now c.delete.ensures.refused) (silent_where g.E.Emit.emits c.delete.result c.args.out.now c.delete.new.out (g.met.E.Emit.emits_none c.args.out.now) c.delete.ensures.silent) c.delete.ensures.asked
      c.delete.ensures.answer (ok_with _ c.delete.result c.args.shared.now.commons.now c.delete.ensures.acted));
}

pub delete-requires-clause-stands : goal.delete-requires-clause-stands
delete-requires-clause-stands g c = (c.args.shared.now.commons.now, c.requires.between.stands)

pub delete-requires-clause-live : goal.delete-requires-clause-live
delete-requires-clause-live g c =
    c.in-Some.ensures.live c.args.shared.now.space.now c.args.shared.now.shelf.now c.args.shared.now.commons.now
    c.requires.between.stands
