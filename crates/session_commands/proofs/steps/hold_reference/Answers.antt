use Rattle.session_commands.proofs.Base.{ap, ◌∙◌}
use Rattle.session_commands.proofs.Words.{has, has_begun, OfLevel, now}
use Rattle.session_commands.proofs.Lemmas.{no_room_for, taken_in_room, owners_same, still_owner, room_left, handed}
use Rattle.session_commands.proofs.steps.hold_reference.Goals as goal

pub returns-in_err-enlarge : goal.returns-in_err-enlarge
returns-in_err-enlarge g c = record {
  performed = λ role is. handed _ _ c.from_residual.ensures.1
      (no_room_for role c.args.kind c.args.key _ _ _ (g.met.E.Emit.emits_none c.args.out.now) _ (c.in_err-enlarge.ensures.performed role));
}

pub returns : goal.returns
returns g c = record { performed = λ role is. taken_in_room role c.args.kind c.args.key _ _ _ _ _ (c.in_ok-enlarge.ensures.performed role) (c.take_reference.ensures.performed role (still_owner role c.args.owner c.args.store.now c.enlarge.new.store is c.in_ok-enlarge.ensures.session)) }

pub take_reference-requires-clause-not_begun : goal.take_reference-requires-clause-not_begun
take_reference-requires-clause-not_begun g c =
    ap (has_begun c.args.owner.number) (owners_same c.args.store.now c.enlarge.new.store c.args.shared.now.space.now (c.in_ok-enlarge.ensures.session c.args.shared.now.space.now))
    ∙ c.requires.not_begun

pub take_reference-requires-clause-live : goal.take_reference-requires-clause-live
take_reference-requires-clause-live g c =
    c.in_ok-enlarge.ensures.alone.stays c.args.owner c.requires.live
    (ap (has c.args.owner.number) (owners_same c.args.store.now c.enlarge.new.store c.args.shared.now.space.now (c.in_ok-enlarge.ensures.session c.args.shared.now.space.now))
    ∙ c.requires.there)

pub take_reference-requires-clause-keeps : goal.take_reference-requires-clause-keeps
take_reference-requires-clause-keeps g c = (c.in_ok-enlarge.ensures.performed OfLevel).keeps

pub take_reference-requires-clause-room : goal.take_reference-requires-clause-room
take_reference-requires-clause-room g c = room_left 1 1 (now c.args.store.now c.args.shared.now) _ c.requires.room (c.in_ok-enlarge.ensures.performed OfLevel).grows
