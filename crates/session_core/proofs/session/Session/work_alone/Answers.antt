use Rattle.session_core.proofs.Base.{◌+◌, refl, arith}
use Rattle.session_core.proofs.Words.{most_steps, most_work, handed, less_room, room_left}
use Rattle.session_core.proofs.Lemmas.{alone_done, alone_refused, alone_unstarted, level_and_work, same_portals}
use Rattle.session_core.proofs.session.Session.work_alone.Goals as goal

pub returns-in_err-start_level-clause-performed : goal.returns-in_err-start_level-clause-performed
returns-in_err-start_level-clause-performed g c = handed _ _ c.from_residual.ensures.1 (alone_unstarted _ _ _ _ _ c.in_err-start_level.ensures.performed)

pub returns-in_err-work-clause-performed : goal.returns-in_err-work-clause-performed
returns-in_err-work-clause-performed g c =
    handed _ _ c.from_residual-in_err-work.ensures.1
    (alone_refused _ _ _ _ _ _ _ _ c.in_ok-start_level.ensures.performed
    (same_portals c.args.work.now _ _ _ _ _ _ c.in_ok-start_level.ensures.portals c.in_err-work.ensures.performed)
    (λ us vs first second. g.met.E.Emit.emits_more _ _ _ _ _ _ first second refl))

pub returns-clause-performed : goal.returns-clause-performed
returns-clause-performed g c =
    alone_done _ _ _ _ _ _ _ _ _ _ c.in_ok-start_level.ensures.performed
    (same_portals c.args.work.now _ _ _ _ _ _ c.in_ok-start_level.ensures.portals c.in_ok-work.ensures.performed) c.commit_alone.ensures.performed
    (λ us vs first second. g.met.E.Emit.emits_more _ _ _ _ _ _ first second refl) (λ us vs first second. g.met.E.Emit.emits_more _ _ _ _ _ _ first second refl)

pub start_level-requires-clause-room : goal.start_level-requires-clause-room
start_level-requires-clause-room g c = less_room 3 most_steps _ (omega arith) c.requires.room

pub work-requires-clause-room : goal.work-requires-clause-room
work-requires-clause-room g c = room_left 3 most_work _ _ (less_room (3 + most_work) most_steps _ level_and_work c.requires.room) c.start_level.ensures.performed.grows
