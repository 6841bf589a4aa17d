use Rattle.pgs_world.proofs.Base.{◌≡◌, ◌-◌, ◌≤◌, length, vec_capacity}
use Rattle.pgs_world.proofs.Words.{HasGiven}
use Rattle.pgs_world.proofs.whole_script.read_script.Given as goal

-- what was read was given
abbrev pub invariant-loop-count : goal.invariant-loop-count
invariant-loop-count g l = record {
  given : HasGiven l.script.items (g.S.Source.left l.initial.src) (g.S.Source.left l.src);
  short : length l.script.items ≤ 65536;
  room : 65537 ≤ vec_capacity l.script;
  whole : length l.chunk ≡ 512;
  no_fault : g.S.Source.faults l.src ≡ g.S.Source.faults l.initial.src;
}

abbrev pub decreases-loop-count : goal.decreases-loop-count
decreases-loop-count g l = 65537 - length l.script.items
