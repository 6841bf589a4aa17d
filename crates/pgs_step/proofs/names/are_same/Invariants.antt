use Rattle.std.proofs.Common.{length, ◌-◌, ◌≡◌, ◌≤◌, ◌==◌, drop}
use lib.Pointwise.{pointwise}
use Rattle.pgs_step.proofs.names.are_same.Given as goal

-- the bytes so far are the same ones
abbrev pub invariant-loop-at : goal.invariant-loop-at
invariant-loop-at l =
    record {
      lengths : length l.bytes ≡ length l.others;
      bound : l.at ≤ length l.others;
      rest : pointwise ◌==◌ (drop l.at l.bytes) (drop l.at l.others) ≡ pointwise ◌==◌ l.bytes l.others;
    }

abbrev pub decreases-loop-at : goal.decreases-loop-at
decreases-loop-at l = length l.others - l.at
