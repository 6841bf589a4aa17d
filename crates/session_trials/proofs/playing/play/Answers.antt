use Rattle.session_core.proofs.Opened.{room_before}
use Rattle.session_trials.proofs.playing.play.Goals as goal

pub take_turn-wanted-requires-clause-room : goal.take_turn-wanted-requires-clause-room
take_turn-wanted-requires-clause-room c = room_before c.loop-command.command-index _ _ _ c.loop-command-test.true c.requires.room c.loop-command.invariant.grows
