use Rattle.portal_commands.proofs.Base.{refl, arith}
use Rattle.portal_commands.proofs.Words.{now, performed_both, less_room, silent_stops, silent_then, stops, room_left, handed}
use Rattle.portal_commands.proofs.making.begin.Goals as goal

pub returns-in_err-new_portal-clause-performed : goal.returns-in_err-new_portal-clause-performed
returns-in_err-new_portal-clause-performed g c =
    handed _ _ c.from_residual.ensures.1
    (silent_stops 1 3 _ _ _ _ _ _ (omega arith) (g.met.E.Emit.emits_none c.args.out.now) c.in_err-new_portal.ensures.performed)

pub returns-in_err-make_context-clause-performed : goal.returns-in_err-make_context-clause-performed
returns-in_err-make_context-clause-performed g c =
    handed _ _ c.from_residual-in_err-make_context.ensures.1
    (silent_then 1 2 _ _ _ _ _ _ _ c.in_ok-new_portal.ensures.performed (stops 1 2 _ _ _ _ _ _ (omega arith) c.in_err-make_context.ensures.performed))

pub returns-clause-performed : goal.returns-clause-performed
returns-clause-performed g c =
    silent_then 1 2 _ _ _ _ _ _ _ c.in_ok-new_portal.ensures.performed
    (performed_both 1 1 _ _ _ _ _ _ _ _ _ c.in_ok-make_context.ensures.performed c.make_owner.ensures.performed (λ us vs first second. g.met.E.Emit.emits_more _ _ _ _ _ _ first second refl))

pub make_context-requires-clause-room : goal.make_context-requires-clause-room
make_context-requires-clause-room g c = room_left 1 1 (now c.args.store.now c.args.shared.now) _ (less_room 2 3 (now c.args.store.now c.args.shared.now) (omega arith) c.requires.room) c.in_ok-new_portal.ensures.performed.grows

pub make_owner-requires-clause-room : goal.make_owner-requires-clause-room
make_owner-requires-clause-room g c = room_left 1 1 _ _ (room_left 1 2 (now c.args.store.now c.args.shared.now) _ c.requires.room c.in_ok-new_portal.ensures.performed.grows) c.in_ok-make_context.ensures.performed.grows
