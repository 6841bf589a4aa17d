use Rattle.std.proofs.Common.{arith}
use Rattle.snap_table.proofs.table.SnapTable.register.Goals as goal

pub raise-requires : goal.raise-requires
raise-requires c = record { room = omega (arith, c.self.invariant.0 c.args.snapshot, c.in_ok-hold.ensures.room) }
