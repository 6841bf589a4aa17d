use Rattle.std.proofs.Common.{length, ◌-◌, ◌≤◌, ◌≢◌, take}
use Rattle.std.specs.Prelude.{All}
use Rattle.pgs_io.proofs.finding.first_from.Given as goal

-- the bytes so far are others
abbrev pub invariant-loop-at : goal.invariant-loop-at
invariant-loop-at l =
    record {
      bound : l.at ≤ length l.bytes;
      others : All (λ b. b ≢ l.byte) (take l.at l.bytes);
    }

abbrev pub decreases-loop-at : goal.decreases-loop-at
decreases-loop-at l = length l.bytes - l.at
