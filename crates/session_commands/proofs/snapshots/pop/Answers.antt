-- The newest active snapshot is popped, or nothing changed.
use Rattle.session_commands.proofs.Base.{refl}
use Rattle.session_commands.proofs.Lemmas.{held_where, missing_where, not_popped, popped, said_nothing}
use Rattle.session_commands.proofs.snapshots.pop.Goals as goal

pub returns-in-Err : goal.returns-in-Err
returns-in-Err g c = record {
  performed =
      not_popped _ _ _ c.requires.between.keeps refl refl (missing_where c.pop.result _ _ c.in-Err.is (c.pop.ensures.not_held c.args.shared.now.space.now))
      (said_nothing g.E.Emit.emits _ _ (g.met.E.Emit.emits_none c.args.out.now) c.in-Err.ensures.silent)
      (c.in-Err.ensures.refused c.args.shared.now.space.now c.args.shared.now.shelf.now c.args.shared.now.commons.now).store refl;
}

pub returns : goal.returns
returns g c = record {
  performed =
      let space = c.args.shared.now.space.now in
      popped _ _ _ c.requires.between.keeps refl refl (held_where c.pop.result _ _ c.in_default.is (c.pop.ensures.not_held space))
      (c.pop.ensures.alone c.args.shared.now.commons.now).tree ((c.pop.ensures.alone c.args.shared.now.commons.now).keeps space c.requires.between.keeps)
      (c.in_default.ensures.acted space c.args.shared.now.shelf.now c.args.shared.now.commons.now);
}
