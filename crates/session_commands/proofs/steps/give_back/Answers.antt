use Rattle.session_commands.proofs.Base.{refl}
use Rattle.session_commands.proofs.Words.{now}
use Rattle.session_commands.proofs.Lemmas.{found_item, given_back, missing_item, not_held, owner_unbegun, said_nothing}
use Rattle.session_commands.proofs.steps.give_back.Goals as goal

pub returns-in-Err : goal.returns-in-Err
returns-in-Err g c = record {
  performed =
      let owner = c.owner_of_level-owner.result in
      let unbegun = owner_unbegun (now c.args.store.now c.args.shared.now) c.requires.between c.requires.active owner.number in
      not_held c.args.kind c.args.key _ _ _ owner c.owner_of_level-owner.ensures.owner c.requires.between.keeps refl
      c.release_item.ensures.alone.keeps c.release_item.ensures.alone.moves c.release_item.ensures.asked
      (missing_item _ c.release_item.result _ c.in-Err.is (c.release_item.ensures.item unbegun))
      (said_nothing g.E.Emit.emits _ _ (g.met.E.Emit.emits_none c.args.out.now) c.in-Err.ensures.silent) c.in-Err.ensures.refused;
}

pub returns : goal.returns
returns g c = record {
  performed =
      let owner = c.owner_of_level-owner.result in
      let unbegun = owner_unbegun (now c.args.store.now c.args.shared.now) c.requires.between c.requires.active owner.number in
      given_back c.args.kind c.args.key _ _ _ owner c.owner_of_level-owner.ensures.owner c.requires.between.keeps refl
      c.release_item.ensures.alone.keeps c.release_item.ensures.alone.moves c.release_item.ensures.asked
      _ (found_item _ c.release_item.result _ c.in_default.is (c.release_item.ensures.item unbegun)) c.in_default.ensures.acted;
}

pub release_item-requires-clause-serves : goal.release_item-requires-clause-serves
release_item-requires-clause-serves g c = c.requires.between.serves
