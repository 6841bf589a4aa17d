use Rattle.std.proofs.Common.{◌≡◌, ◌-◌, ◌≤◌}
use Rattle.addr_space.specs.Space.{Changes, overwritten, part, bytes_of, region_at}
use Rattle.addr_space.proofs.Space.copy.Given as goal

abbrev pub invariant-loop-done : goal.invariant-loop-done
invariant-loop-done l = record {
  within : l.done ≤ l.n;
  taken : l.self.taken ≡ l.initial.self.taken;
  changes : Changes l.initial.self l.self l.to.region (overwritten (region_at l.initial.self l.to.region) l.to.offset (part (bytes_of (region_at l.initial.self l.from.region)) l.from.offset l.done));
}

abbrev pub decreases-loop-done : goal.decreases-loop-done
decreases-loop-done l = l.n - l.done
