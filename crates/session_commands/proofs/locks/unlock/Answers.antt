-- The owner holds a lock once less, or it doesn't hold it.
use Rattle.session_commands.proofs.Base.{refl, ap}
use Rattle.session_commands.proofs.Words.{CommonState}
use Rattle.session_commands.proofs.Lemmas.{is_missing, lock_not_held, unlocked, was_held, said_nothing}
use Rattle.session_commands.proofs.locks.unlock.Goals as goal

pub returns-in-Err : goal.returns-in-Err
returns-in-Err g c = record {
  performed =
      let owner = c.owner_of_level-owner.result in
      lock_not_held c.args.object c.args.mode _ _ _ owner c.owner_of_level-owner.ensures.owner c.requires.between.keeps refl refl
      (is_missing _ c.unlock.result _ c.in-Err.is c.unlock.ensures.not_held c.unlock.ensures.only_not_held)
      (said_nothing g.E.Emit.emits _ _ (g.met.E.Emit.emits_none c.args.out.now) c.in-Err.ensures.silent) c.in-Err.ensures.refused
      (ap (λ (m : CommonState). (c.args.shared.now.shelf.now, m)) c.in-Err.ensures.untouched);
}

pub returns : goal.returns
returns g c = record {
  performed =
      let space = c.args.shared.now.space.now in
      let owner = c.owner_of_level-owner.result in
      unlocked c.args.object c.args.mode _ _ _ owner c.owner_of_level-owner.ensures.owner c.requires.between.keeps refl refl
      (was_held _ c.unlock.result _ c.in_default.is c.unlock.ensures.not_held)
      c.in_default.ensures.alone.tree _ c.unlock.ensures.counts (c.in_default.ensures.alone.keeps space c.requires.between.keeps) (c.in_default.ensures.acted space c.args.shared.now.shelf.now);
}

pub unlock-requires : goal.unlock-requires
unlock-requires g c = c.requires.between.serves
