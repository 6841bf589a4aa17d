use Rattle.std.proofs.Common.{map}
use Rattle.snap_table.specs.Snapshots.{pops}
use Rattle.snap_table.proofs.table.emit_pops.Given as goal

abbrev pub invariant-loop-entry : goal.invariant-loop-entry
invariant-loop-entry g l = g.E.Emit.emits l.initial.out (pops l.level (map (λ x. x.now) l.yielded)) l.out
