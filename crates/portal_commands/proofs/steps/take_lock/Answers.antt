use Rattle.portal_commands.proofs.Base.{true, false}
use Rattle.portal_commands.proofs.Words.{AccessShareLock, OfPortal, now, where_done}
use Rattle.portal_commands.proofs.Lemmas.{has_owner, lock_on}
use Rattle.portal_commands.proofs.steps.take_lock.Goals as goal

pub returns-clause-performed : goal.returns-clause-performed
returns-clause-performed g c = c.hold_lock.ensures.performed (OfPortal c.args.name.now) c.owner_of-owner.ensures.owner

pub returns-clause-making : goal.returns-clause-making
returns-clause-making g c =
    where_done c.hold_lock.result
    (λ none. lock_on c.args.name.now (now c.args.store.now c.args.shared.now) _ _ _ c.args.object AccessShareLock (returns-clause-performed g c) c.requires.making none)

pub owner_of-owner-requires : goal.owner_of-owner-requires
owner_of-owner-requires g c = record { there = has_owner _ c.args.shared.now.space.now c.args.name.now true false c.requires.making.way }

pub hold_lock-requires-clause-between : goal.hold_lock-requires-clause-between
hold_lock-requires-clause-between g c = c.requires.making.between
