use Rattle.std.proofs.Common.{◌≡◌, ◌*◌, ◌%◌, ◌-◌, ◌<◌, ◌≤◌, ◌⊎◌}
use Rattle.chunk_header.specs.Growth.{grown}
use Rattle.chunk_header.proofs.grown.Given as goal

abbrev pub invariant-loop-now : goal.invariant-loop-now
invariant-loop-now l = record {
  value : grown l.now l.need ≡ grown l.size l.need;
  some : 0 < l.now;
  least : l.size ≤ l.now;
  most : (l.now ≡ l.size) ⊎ (l.now < 2 * l.need);
  whole : l.size % 8 ≡ 0 → l.now % 8 ≡ 0;
}

abbrev pub decreases-loop-now : goal.decreases-loop-now
decreases-loop-now l = l.need - l.now
