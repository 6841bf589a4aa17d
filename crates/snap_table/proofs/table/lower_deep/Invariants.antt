use Rattle.std.proofs.Common.{◌≡◌, ◌-◌, ℕ, filter, count_by, take}
use Rattle.std.specs.Ordering.{nat_cmp}
use Rattle.std.specs.BTreeMap.{is_at}
use Rattle.counts.specs.Counts.{count_of}
use Rattle.snap_table.specs.Snapshots.{snapshots_of, is_deep}
use Rattle.snap_table.proofs.table.lower_deep.Given as goal

abbrev pub invariant-loop-entry : goal.invariant-loop-entry
invariant-loop-entry l = (q : ℕ) → count_of nat_cmp l.held q ≡ count_of nat_cmp l.initial.held q - count_by (is_at (nat_cmp q)) (snapshots_of (filter (is_deep l.level) (take l.entry-index l.stack)))
