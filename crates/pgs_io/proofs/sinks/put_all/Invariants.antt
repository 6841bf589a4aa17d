use Rattle.std.proofs.Common.{length, ◌-◌, ◌≡◌, ◌≤◌, take}
use Rattle.std.specs.Io.KnownBytes.{append_known}
use Rattle.pgs_io.proofs.sinks.put_all.Given as goal

-- the bytes up to `at` are written, without a fault
abbrev pub invariant-loop-at : goal.invariant-loop-at
invariant-loop-at g l =
    record {
      in_range : l.at ≤ length l.bytes;
      wrote : g.K.Sink.written l.out ≡ append_known (g.K.Sink.written l.initial.out) (take l.at l.bytes);
      no_fault : g.K.Sink.faults l.out ≡ g.K.Sink.faults l.initial.out;
      nothing : l.at ≡ 0 → l.out ≡ l.initial.out;
    }

abbrev pub decreases-loop-at : goal.decreases-loop-at
decreases-loop-at g l = length l.bytes - l.at
