-- The deepest level's owner takes a reference, as any owner does.
use Rattle.session_commands.proofs.Words.{OfLevel, now}
use Rattle.session_commands.proofs.Lemmas.{owner_there, owner_unbegun}
use Rattle.session_commands.proofs.items.refer.Goals as goal

pub returns : goal.returns
returns g c = record { performed = c.hold_reference.ensures.performed OfLevel c.owner_of_level-owner.ensures.owner }

pub hold_reference-requires-clause-not_begun : goal.hold_reference-requires-clause-not_begun
hold_reference-requires-clause-not_begun g c = owner_unbegun (now c.args.store.now c.args.shared.now) c.requires.between c.requires.active c.owner_of_level-owner.result.number

pub hold_reference-requires-clause-there : goal.hold_reference-requires-clause-there
hold_reference-requires-clause-there g c = owner_there (now c.args.store.now c.args.shared.now) c.requires.between c.requires.active c.owner_of_level-owner.result.number (c.owner_of_level-owner.ensures.owner c.args.shared.now.space.now)

pub hold_reference-requires-clause-live : goal.hold_reference-requires-clause-live
hold_reference-requires-clause-live g c = c.owner_of_level-owner.ensures.live c.args.shared.now.space.now c.args.shared.now.shelf.now c.args.shared.now.commons.now c.requires.between.stands
