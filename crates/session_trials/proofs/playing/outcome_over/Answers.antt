use Rattle.std.proofs.Common.{length, arith}
use Rattle.session_trials.proofs.Known.{room_behind, room_first}
use Rattle.session_trials.proofs.playing.outcome_over.Goals as goal

pub play-requires-clause-room : goal.play-requires-clause-room
play-requires-clause-room c = room_first (length c.args.before.now) _ (omega (arith, c.requires.few)) c.in_ok-session.ensures.room

pub play-requires-2-clause-lines : goal.play-requires-2-clause-lines
play-requires-2-clause-lines c = c.overwrite-known.ensures.lines c.play.new.shared.shelf.now c.play.new.shared.commons.now c.play.new.shared.calls.now c.play.ensures.lines

pub play-requires-2-clause-room : goal.play-requires-2-clause-room
play-requires-2-clause-room c =
    let left = room_behind (length c.args.before.now) (length c.args.behind.now) _ _ c.requires.few c.in_ok-session.ensures.room c.play.ensures.grows in
    record { contexts = left.contexts; owners = left.owners; serials = left.serials; calls = left.calls }
