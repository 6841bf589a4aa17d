use Rattle.std.proofs.Common.{◌++◌}
use Rattle.snap_table.specs.Snapshots.{snapshots_of}
use Rattle.snap_table.proofs.SnapLemmas.{tallies-both}
use Rattle.snap_table.proofs.table.SnapTable.distinct.Goals as goal

pub returns : goal.returns
returns c = rw (← c.self.view_is) (λ taken tallies. c.distinct.ensures.different (taken ++ snapshots_of c.self.inside.stack.items) (tallies-both c.self.inside.held c.self.inside.registered c.self.inside.stack.items taken c.self.invariant.0 tallies))
