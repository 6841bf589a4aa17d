use Rattle.std.proofs.Common.{◌≡◌, true, false}
use Rattle.pgs_io.proofs.FeedLemmas.{Begun}
use Rattle.pgs_io.proofs.feeding.Feed.line.Given as goal

-- the line was begun, no fault was met, and a source that was at its end was not read
abbrev pub invariant-loop-long : goal.invariant-loop-long
invariant-loop-long g l =
    record {
      begun : Begun (g.S.Source.left l.initial.src) (g.S.Source.left l.src) l.initial.self l.self l.buf l.long;
      no_fault : g.S.Source.faults l.src ≡ g.S.Source.faults l.initial.src;
      ended : l.self.ended ≡ false;
      unread : l.initial.self.source_ended ≡ true → (l.src ≡ l.initial.src) × (l.self.source_ended ≡ true);
    }

-- each read that brings bytes takes room
abbrev pub decreases-loop-long : goal.decreases-loop-long
decreases-loop-long g l = l.self.room
