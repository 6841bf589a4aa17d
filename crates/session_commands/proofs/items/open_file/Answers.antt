use Rattle.session_commands.proofs.Base.{ap, sym, ◌∙◌}
use Rattle.session_commands.proofs.Words.{has, holds_file, has_begun, OfLevel, now}
use Rattle.session_commands.proofs.Lemmas.{is_taken, opened, owner_there, owner_unbegun, owners_same, room_left, handed}
use Rattle.session_commands.proofs.OnFiles.{no_room}
use Rattle.session_commands.proofs.items.open_file.Goals as goal

pub returns-then-is_open : goal.returns-then-is_open
returns-then-is_open g c = record {
  performed =
      is_taken c.args.file (now c.args.store.now c.args.shared.now) c.requires.between.keeps c.is_open.result
      (c.is_open.ensures.session c.args.shared.now.space.now) _
      (g.met.E.Emit.emits_none c.args.out.now) c.if-is_open.true;
}

pub enlarge-requires-clause-not_begun : goal.enlarge-requires-clause-not_begun
enlarge-requires-clause-not_begun g c = owner_unbegun (now c.args.store.now c.args.shared.now) c.requires.between c.requires.active c.owner_of_level-owner.result.number

pub returns-in_err-enlarge : goal.returns-in_err-enlarge
returns-in_err-enlarge g c = record {
  performed =
      handed _ _ c.from_residual.ensures.1
      (no_room c.args.file (now c.args.store.now c.args.shared.now) c.requires.between.keeps c.is_open.result
      (c.is_open.ensures.session c.args.shared.now.space.now)
      c.if-is_open.false _ _ (g.met.E.Emit.emits_none c.args.out.now) _ (c.in_err-enlarge.ensures.performed OfLevel));
}

pub take_file-requires-clause-live : goal.take_file-requires-clause-live
take_file-requires-clause-live g c =
    c.in_ok-enlarge.ensures.alone.stays c.owner_of_level-owner.result (c.owner_of_level-owner.ensures.live c.args.shared.now.space.now c.args.shared.now.shelf.now c.args.shared.now.commons.now c.requires.between.stands)
    (ap (has c.owner_of_level-owner.result.number) (owners_same c.args.store.now c.enlarge.new.store c.args.shared.now.space.now (c.in_ok-enlarge.ensures.session c.args.shared.now.space.now))
    ∙ owner_there (now c.args.store.now c.args.shared.now) c.requires.between c.requires.active c.owner_of_level-owner.result.number (c.owner_of_level-owner.ensures.owner c.args.shared.now.space.now))

pub take_file-requires-clause-not_begun : goal.take_file-requires-clause-not_begun
take_file-requires-clause-not_begun g c =
    ap (has_begun c.owner_of_level-owner.result.number) (owners_same c.args.store.now c.enlarge.new.store c.args.shared.now.space.now (c.in_ok-enlarge.ensures.session c.args.shared.now.space.now))
    ∙ owner_unbegun (now c.args.store.now c.args.shared.now) c.requires.between c.requires.active c.owner_of_level-owner.result.number

pub take_file-requires-clause-closed : goal.take_file-requires-clause-closed
take_file-requires-clause-closed g c =
    ap (holds_file c.args.file) (owners_same c.args.store.now c.enlarge.new.store c.args.shared.now.space.now (c.in_ok-enlarge.ensures.session c.args.shared.now.space.now))
    ∙ sym c.is_open.ensures.held
    ∙ c.if-is_open.false

pub returns : goal.returns
returns g c = record {
  performed =
      opened c.args.file (now c.args.store.now c.args.shared.now) c.requires.between.keeps c.is_open.result
      (c.is_open.ensures.session c.args.shared.now.space.now)
      c.if-is_open.false _ _ _ _ (c.in_ok-enlarge.ensures.performed OfLevel) c.take_file.ensures.performed;
}

pub take_file-requires-clause-keeps : goal.take_file-requires-clause-keeps
take_file-requires-clause-keeps g c = (c.in_ok-enlarge.ensures.performed OfLevel).keeps

pub take_file-requires-clause-room : goal.take_file-requires-clause-room
take_file-requires-clause-room g c = room_left 1 1 (now c.args.store.now c.args.shared.now) _ c.requires.room (c.in_ok-enlarge.ensures.performed OfLevel).grows
