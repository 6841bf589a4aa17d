use Rattle.session_commands.proofs.Base.{refl}
use Rattle.session_commands.proofs.Words.{now}
use Rattle.session_commands.proofs.Lemmas.{discarded, no_plan}
use Rattle.session_commands.proofs.plans.discard_plan.Goals as goal

pub returns-then-not-can_refer : goal.returns-then-not-can_refer
returns-then-not-can_refer g c = record {
  performed =
      no_plan c.args.plan (now c.args.store.now c.args.shared.now) c.requires.between.keeps c.can_refer.result (c.can_refer.ensures.session c.args.shared.now.space.now)
      _ _ (g.met.E.Emit.emits_none c.args.out.now) c.if-not-can_refer.true;
}

pub returns : goal.returns
returns g c = record {
  performed =
      discarded c.args.plan (now c.args.store.now c.args.shared.now) c.requires.between.keeps c.can_refer.result (c.can_refer.ensures.session c.args.shared.now.space.now)
      c.if-not-can_refer.false _ _ refl (c.drop_plan.ensures.acted c.args.shared.now.commons.now) (c.drop_plan.ensures.alone c.args.shared.now.commons.now) c.drop_plan.ensures.asked;
}
