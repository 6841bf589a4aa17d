use Rattle.std.proofs.Common.{◌≡◌, ◌+◌, ℕ, List, length, false}
use Rattle.pgs_io.specs.Feeding.{HasFed}
use Rattle.command_trials.proofs.counting.count_lines.Given as goal

-- so many lines were given so far
abbrev pub invariant-loop-count : goal.invariant-loop-count
invariant-loop-count g l =
    (lines : List (List ℕ)) × HasFed l.fn.limit (g.S.Source.left l.initial.src) (g.S.Source.left l.src) l.feed lines × (l.count ≡ length lines) × (l.feed.ended ≡ false)

-- the bytes that may still be given
abbrev pub decreases-loop-count : goal.decreases-loop-count
decreases-loop-count g l = length l.feed.pending + l.feed.room
