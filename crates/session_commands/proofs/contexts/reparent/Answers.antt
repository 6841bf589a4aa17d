use Rattle.session_commands.proofs.Base.{refl, sym}
use Rattle.session_commands.proofs.Lemmas.{on_no_context, here, no_parent, reparent_performed, refused_still, silent_where, told_errors}
use Rattle.session_commands.proofs.contexts.reparent.Goals as goal

pub returns-in_default : goal.returns-in_default
returns-in_default g c = record {
  performed =
      on_no_context c.args.name.now _ _ _ (sym (c.in_default.ensures.named c.args.shared.now.space.now))
      c.requires.between.keeps (g.met.E.Emit.emits_none c.args.out.now);
}

pub returns-in_default-named : goal.returns-in_default-named
returns-in_default-named g c = record {
  performed =
      no_parent c.args.name.now c.args.parent.now _ _ c.in-Some.at.number _ (sym (c.in-Some.ensures.named c.args.shared.now.space.now)) (sym (c.in_default-named.ensures.named c.args.shared.now.space.now))
      c.requires.between.keeps (g.met.E.Emit.emits_none c.args.out.now);
}

pub returns : goal.returns
returns g c = record {
  performed =
      told_errors _ _ c.map_err.ensures.cases
      (reparent_performed c.args.name.now _ _ c.in-Some.at.number _ (sym (c.in-Some.ensures.named c.args.shared.now.space.now)) c.requires.between.keeps (c.reparent.ensures.alone c.args.shared.now.space.now c.args.shared.now.commons.now c.requires.between.keeps) refl
      c.args.parent.now c.in-Some-named.parent.number (sym (c.in-Some-named.ensures.named c.args.shared.now.space.now)) c.reparent.result refl
      (refused_still c.reparent.result _ _ c.args.shared.now.space.now c.args.shared.now.shelf.now c.args.shared.now.commons.now c.reparent.ensures.err)
      (silent_where g.E.Emit.emits c.reparent.result c.args.out.now c.reparent.new.out (g.met.E.Emit.emits_none c.args.out.now) c.reparent.ensures.silent)
      (c.reparent.ensures.answer c.args.shared.now.space.now) (here _ c.reparent.result c.args.shared.now.space.now c.args.shared.now.shelf.now c.args.shared.now.commons.now c.reparent.ensures.acted));
}

pub reparent-requires-clause-stands : goal.reparent-requires-clause-stands
reparent-requires-clause-stands g c =
    (c.args.shared.now.space.now, (c.args.shared.now.shelf.now, (c.args.shared.now.commons.now, c.requires.between.stands)))

pub reparent-requires-clause-live : goal.reparent-requires-clause-live
reparent-requires-clause-live g c =
    c.in-Some.ensures.live c.args.shared.now.space.now c.args.shared.now.shelf.now c.args.shared.now.commons.now
    c.requires.between.stands

pub reparent-requires-clause-parent : goal.reparent-requires-clause-parent
reparent-requires-clause-parent g c =
    c.in-Some-named.ensures.live c.args.shared.now.space.now c.args.shared.now.shelf.now c.args.shared.now.commons.now
    c.requires.between.stands
