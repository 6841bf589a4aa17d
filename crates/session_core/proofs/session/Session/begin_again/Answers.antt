use Rattle.session_core.proofs.Base.{refl}
use Rattle.session_core.proofs.Words.{room_left, performed_both}
use Rattle.session_core.proofs.session.Session.begin_again.Goals as goal

pub start_level-requires-clause-room : goal.start_level-requires-clause-room
start_level-requires-clause-room g c = room_left 0 3 _ _ c.requires.room c.roll_back_to.ensures.performed.grows

pub returns-clause-performed : goal.returns-clause-performed
returns-clause-performed g c =
    performed_both 0 3 _ _ _ _ _ _ _ _ _ c.roll_back_to.ensures.performed c.start_level.ensures.performed (λ us vs first second. g.met.E.Emit.emits_more _ _ _ _ _ _ first second refl)

pub start_level-requires-clause-rest : goal.start_level-requires-clause-rest
start_level-requires-clause-rest g c = c.roll_back_to.ensures.rest c.requires.within
