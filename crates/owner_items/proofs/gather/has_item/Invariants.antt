use Rattle.std.proofs.Common.{◌≡◌, ◌<◌, ℕ, get_or}
use Rattle.pgs_step.specs.declared.ids.Item.{Item}
use Rattle.owner_kinds.specs.KindShelf.{table_of}
use Rattle.owner_items.specs.Gathered.{rank}
use Rattle.owner_items.proofs.gather.has_item.Given as goal

abbrev pub invariant-loop-item : goal.invariant-loop-item
invariant-loop-item g l = (k : ℕ) (d : Item) → k < l.item-index → rank (table_of l.kinds) l.phase (get_or l.items k d) ≡ 0
