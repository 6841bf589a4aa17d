use Rattle.portal_commands.proofs.Base.{true, false}
use Rattle.portal_commands.proofs.Words.{OfPortal, now, owner_unbegun, where_done}
use Rattle.portal_commands.proofs.Lemmas.{has_owner, portals_owner, reference_on}
use Rattle.portal_commands.proofs.steps.take_reference.Goals as goal

pub returns-clause-performed : goal.returns-clause-performed
returns-clause-performed g c = c.hold_reference.ensures.performed (OfPortal c.args.name.now) c.owner_of-owner.ensures.owner

pub returns-clause-making : goal.returns-clause-making
returns-clause-making g c =
    where_done c.hold_reference.result
    (λ none. reference_on c.args.name.now (now c.args.store.now c.args.shared.now) _ _ _ c.args.kind c.args.key c.requires.kind (returns-clause-performed g c) c.requires.making none)

pub owner_of-owner-requires : goal.owner_of-owner-requires
owner_of-owner-requires g c = record { there = has_owner _ c.args.shared.now.space.now c.args.name.now true false c.requires.making.way }

pub hold_reference-requires-clause-between : goal.hold_reference-requires-clause-between
hold_reference-requires-clause-between g c = c.requires.making.between

pub hold_reference-requires-clause-live : goal.hold_reference-requires-clause-live
hold_reference-requires-clause-live g c = c.owner_of-owner.ensures.live c.args.shared.now.space.now c.args.shared.now.shelf.now c.args.shared.now.commons.now c.requires.making.between.stands

pub hold_reference-requires-clause-there : goal.hold_reference-requires-clause-there
hold_reference-requires-clause-there g c = portals_owner c.args.name.now (now c.args.store.now c.args.shared.now) c.owner_of-owner.result c.requires.making.between c.requires.making.working c.owner_of-owner.ensures.owner

pub hold_reference-requires-clause-not_begun : goal.hold_reference-requires-clause-not_begun
hold_reference-requires-clause-not_begun g c = owner_unbegun (now c.args.store.now c.args.shared.now) c.requires.making.between c.requires.making.working c.owner_of-owner.result.number
