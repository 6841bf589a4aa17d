use Rattle.std.proofs.Common.{◌≡◌, length, subst}
use Rattle.std.specs.Ordering.{nat_cmp, eq_by_cmp}
use Rattle.std.specs.Set.{distinct_count}
use Rattle.counts.specs.Counts.{Tallies}
use Rattle.snap_table.specs.Snapshots.{Snapshots}
use Rattle.snap_table.proofs.table.SnapTable.laws.Goals as goal

pub returns-clause-different : goal.returns-clause-different
returns-clause-different c = λ taken.
    let P : Snapshots → Type 0 = λ t. Tallies nat_cmp taken t.registered → length t.registered ≡ distinct_count (eq_by_cmp nat_cmp) taken in
    subst P c.self.view_is (c.laws.ensures.different taken)
