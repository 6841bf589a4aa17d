use Rattle.std.proofs.Common.{ℕ, ◌+◌, List, count_by, sym, ap, subst, ◌∙◌}
use Rattle.std.specs.Ordering.{nat_cmp}
use Rattle.std.specs.BTreeMap.{is_at}
use Rattle.counts.specs.Counts.{count_of}
use Rattle.snap_table.specs.declared.active.Active.{Active}
use Rattle.snap_table.specs.Snapshots.{snapshots_of, IsRising}
use Rattle.snap_table.proofs.SnapLemmas.{snapshots-lowered}
use Rattle.snap_table.proofs.StackLemmas.{rising_lowered}
use Rattle.snap_table.proofs.table.SnapTable.lower_deepest.Goals as goal

pub invariant_of-self : goal.invariant_of-self
invariant_of-self c = (
  λ q. c.self.invariant.0 q ∙ ap (λ (xs : List ℕ). count_of nat_cmp c.self.inside.registered q + count_by (is_at (nat_cmp q)) xs) (sym (snapshots-lowered c.args.level c.self.inside.stack.items) ∙ ap snapshots_of (sym c.lower_level.ensures)),
  λ known. subst (λ (s : List Active). IsRising s) (sym c.lower_level.ensures) (rising_lowered c.args.level c.self.inside.stack.items (c.self.invariant.1 known)),
)
