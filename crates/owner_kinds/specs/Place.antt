-- When items of a kind may be released.
use Rattle.std.specs.Prelude.{◌≢◌, ◌≤◌}
use Rattle.pgs_step.specs.declared.ids.Phase.TheVariants.{Locks}
use Rattle.owner_kinds.specs.declared.kind_row.KindRow.{KindRow}

-- not with the locks, and at a place from 1 to 1,000,000
abbrev pub IsPlace : KindRow → Type 0
IsPlace row = (row.phase ≢ Locks) × (1 ≤ row.priority) × (row.priority ≤ 1000000)
