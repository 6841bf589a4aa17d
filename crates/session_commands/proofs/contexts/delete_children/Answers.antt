use Rattle.session_commands.proofs.Base.{refl, sym}
use Rattle.session_commands.proofs.Lemmas.{on_no_context, delete_children_performed, err_with, ok_with, silent_where, told_errors}
use Rattle.session_commands.proofs.contexts.delete_children.Goals as goal

pub returns-in_default : goal.returns-in_default
returns-in_default g c = record {
  performed =
      on_no_context c.args.name.now _ _ _ (sym (c.in_default.ensures.named c.args.shared.now.space.now))
      c.requires.between.keeps (g.met.E.Emit.emits_none c.args.out.now);
}

pub returns : goal.returns
returns g c = record {
  performed =
      told_errors _ _ c.map_err.ensures.cases
      (delete_children_performed c.args.name.now _ _ c.in-Some.at.number _ c.delete_children.result (sym (c.in-Some.ensures.named c.args.shared.now.space.now))
      c.requires.between.keeps refl
      (c.delete_children.ensures.alone c.args.shared.now.commons.now) (err_with _ c.delete_children.result c.args.shared.now.commons.now c.delete_children.ensures.refused) (silent_where g.E.Emit.emits c.delete_children.result c.args.out.now c.delete_children.new.out (g.met.E.Emit.emits_none c.args.out.now) c.delete_children.ensures.silent) c.delete_children.ensures.asked
      c.delete_children.ensures.answer (ok_with _ c.delete_children.result c.args.shared.now.commons.now c.delete_children.ensures.acted));
}

pub delete_children-requires-clause-stands : goal.delete_children-requires-clause-stands
delete_children-requires-clause-stands g c = (c.args.shared.now.commons.now, c.requires.between.stands)

pub delete_children-requires-clause-live : goal.delete_children-requires-clause-live
delete_children-requires-clause-live g c =
    c.in-Some.ensures.live c.args.shared.now.space.now c.args.shared.now.shelf.now c.args.shared.now.commons.now
    c.requires.between.stands
