use Rattle.pgs_world.proofs.Base.{◌≡◌, ◌+◌, ℕ, List, length, false}
use Rattle.pgs_world.proofs.Words.{IsGoing, ShowsEvents, run_of, AreStanding, HaveDescriptors}
use Rattle.pgs_world.specs.Loop.{Stands}
use Rattle.pgs_world.proofs.performing.perform_lines.Given as goal

-- the lines so far were performed, the sessions stand, the source has not failed, the feed goes on, and no write has failed
abbrev pub invariant-loop-line : goal.invariant-loop-line
invariant-loop-line g l =
    (lines : List (List ℕ))
    × ((descriptors : ℕ) → HaveDescriptors descriptors (run_of l.initial.sessions l.initial.shared) → Stands descriptors (run_of l.initial.sessions l.initial.shared) (g.S.Source.left l.initial.src) (g.S.Source.left l.src) l.feed (run_of l.sessions l.shared) (λ xs. ShowsEvents g.K.Sink.written g.K.Sink.faults l.initial.printer xs l.printer) lines)
    × (l.lines ≡ length lines)
    × (g.S.Source.faults l.src ≡ g.S.Source.faults l.initial.src)
    × AreStanding 0 (run_of l.sessions l.shared)
    × (l.feed.ended ≡ false)
    × IsGoing l.printer

-- the bytes that may still be given
abbrev pub decreases-loop-line : goal.decreases-loop-line
decreases-loop-line g l = length l.feed.pending + l.feed.room
