use Rattle.session_commands.proofs.Words.{OfLevel, now}
use Rattle.session_commands.proofs.Lemmas.{no_buffer, owner_there, owner_unbegun, pinned}
use Rattle.session_commands.proofs.items.pin.Goals as goal

pub returns-then-buffer-ge-BUFFERS : goal.returns-then-buffer-ge-BUFFERS
returns-then-buffer-ge-BUFFERS g c = record { performed = no_buffer c.args.buffer _ c.requires.between.keeps _ (g.met.E.Emit.emits_none c.args.out.now) c.if-buffer-ge-BUFFERS.true }

pub returns : goal.returns
returns g c = record { performed = pinned c.args.buffer _ c.requires.between.keeps c.if-buffer-ge-BUFFERS.false _ _ _ (c.hold_pin.ensures.performed OfLevel c.owner_of_level-owner.ensures.owner) }

pub hold_pin-requires-clause-not_begun : goal.hold_pin-requires-clause-not_begun
hold_pin-requires-clause-not_begun g c = owner_unbegun (now c.args.store.now c.args.shared.now) c.requires.between c.requires.active c.owner_of_level-owner.result.number

pub hold_pin-requires-clause-there : goal.hold_pin-requires-clause-there
hold_pin-requires-clause-there g c = owner_there (now c.args.store.now c.args.shared.now) c.requires.between c.requires.active c.owner_of_level-owner.result.number (c.owner_of_level-owner.ensures.owner c.args.shared.now.space.now)

pub hold_pin-requires-clause-live : goal.hold_pin-requires-clause-live
hold_pin-requires-clause-live g c = c.owner_of_level-owner.ensures.live c.args.shared.now.space.now c.args.shared.now.shelf.now c.args.shared.now.commons.now c.requires.between.stands
