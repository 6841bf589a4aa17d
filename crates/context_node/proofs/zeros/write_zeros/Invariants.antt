use Rattle.context_node.proofs.Words.{◌≡◌, ◌-◌, ◌≤◌, map, Some, Changes, overwritten, region_at, zeros}
use Rattle.context_node.proofs.zeros.write_zeros.Given as goal

abbrev pub invariant-loop-done : goal.invariant-loop-done
invariant-loop-done l = record {
  within : l.done ≤ l.size;
  taken : l.space.taken ≡ l.initial.space.taken;
  changes : Changes l.initial.space l.space l.at.region (overwritten (region_at l.initial.space l.at.region) l.at.offset (map Some (zeros l.done)));
}

abbrev pub decreases-loop-done : goal.decreases-loop-done
decreases-loop-done l = l.size - l.done
