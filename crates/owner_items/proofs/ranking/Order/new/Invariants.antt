use Rattle.std.proofs.Common.{◌≡◌, take}
use Rattle.owner_kinds.specs.KindShelf.{table_of}
use Rattle.owner_items.proofs.ranking.Order.new.Given as goal

abbrev pub invariant-loop-row : goal.invariant-loop-row
invariant-loop-row g l = l.rows.items ≡ take l.row-index (table_of l.kinds).rows
