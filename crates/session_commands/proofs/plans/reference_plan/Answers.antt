use Rattle.session_commands.proofs.Base.{ap, ◌∙◌}
use Rattle.session_commands.proofs.Words.{has, has_begun, OfLevel, now}
use Rattle.session_commands.proofs.Lemmas.{no_plan, no_room, referred, owner_there, owner_unbegun, owners_same, room_left, handed}
use Rattle.session_commands.proofs.plans.reference_plan.Goals as goal

pub returns-then-not-can_refer : goal.returns-then-not-can_refer
returns-then-not-can_refer g c = record {
  performed =
      no_plan c.args.plan (now c.args.store.now c.args.shared.now) c.requires.between.keeps c.can_refer.result (c.can_refer.ensures.session c.args.shared.now.space.now)
      _ _ (g.met.E.Emit.emits_none c.args.out.now) c.if-not-can_refer.true;
}

pub enlarge-requires-clause-not_begun : goal.enlarge-requires-clause-not_begun
enlarge-requires-clause-not_begun g c = owner_unbegun (now c.args.store.now c.args.shared.now) c.requires.between c.requires.active c.owner_of_level-owner.result.number

pub returns-in_err-enlarge : goal.returns-in_err-enlarge
returns-in_err-enlarge g c = record {
  performed =
      handed _ _ c.from_residual.ensures.1
      (no_room c.args.plan (now c.args.store.now c.args.shared.now) c.requires.between.keeps c.can_refer.result (c.can_refer.ensures.session c.args.shared.now.space.now)
      c.if-not-can_refer.false _ _ (g.met.E.Emit.emits_none c.args.out.now) _ (c.in_err-enlarge.ensures.performed OfLevel));
}

pub take_plan-requires-clause-live : goal.take_plan-requires-clause-live
take_plan-requires-clause-live g c =
    c.in_ok-enlarge.ensures.alone.stays c.owner_of_level-owner.result (c.owner_of_level-owner.ensures.live c.args.shared.now.space.now c.args.shared.now.shelf.now c.args.shared.now.commons.now c.requires.between.stands)
    (ap (has c.owner_of_level-owner.result.number) (owners_same c.args.store.now c.enlarge.new.store c.args.shared.now.space.now (c.in_ok-enlarge.ensures.session c.args.shared.now.space.now))
    ∙ owner_there (now c.args.store.now c.args.shared.now) c.requires.between c.requires.active c.owner_of_level-owner.result.number (c.owner_of_level-owner.ensures.owner c.args.shared.now.space.now))

pub take_plan-requires-clause-not_begun : goal.take_plan-requires-clause-not_begun
take_plan-requires-clause-not_begun g c =
    ap (has_begun c.owner_of_level-owner.result.number) (owners_same c.args.store.now c.enlarge.new.store c.args.shared.now.space.now (c.in_ok-enlarge.ensures.session c.args.shared.now.space.now))
    ∙ owner_unbegun (now c.args.store.now c.args.shared.now) c.requires.between c.requires.active c.owner_of_level-owner.result.number

pub returns : goal.returns
returns g c = record {
  performed =
      referred c.args.plan (now c.args.store.now c.args.shared.now) c.requires.between.keeps c.can_refer.result (c.can_refer.ensures.session c.args.shared.now.space.now)
      c.if-not-can_refer.false _ _ _ _ (c.in_ok-enlarge.ensures.performed OfLevel) c.take_plan.ensures.performed;
}

pub take_plan-requires-clause-keeps : goal.take_plan-requires-clause-keeps
take_plan-requires-clause-keeps g c = (c.in_ok-enlarge.ensures.performed OfLevel).keeps

pub take_plan-requires-clause-room : goal.take_plan-requires-clause-room
take_plan-requires-clause-room g c = room_left 1 1 (now c.args.store.now c.args.shared.now) _ c.requires.room (c.in_ok-enlarge.ensures.performed OfLevel).grows
