use Rattle.std.proofs.Common.{length}
use Rattle.session_trials.proofs.Known.{room_first}
use Rattle.session_trials.proofs.playing.outcome.Goals as goal

pub play-requires-clause-room : goal.play-requires-clause-room
play-requires-clause-room c = room_first (length c.args.commands.now) _ c.requires.few c.in_ok-session.ensures.room
