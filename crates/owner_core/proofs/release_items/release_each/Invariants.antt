-- What was done so far, and then the release of the items that are left, is the release of all items.
use Rattle.std.proofs.Common.{◌≡◌, ℕ, ◌+◌, List, ◌++◌, length, All}
use Rattle.pgs_step.specs.declared.ids.KindId.{KindId}
use Rattle.pgs_step.specs.declared.events.What.{What}
use Rattle.owner_kinds.specs.KindTable.{IsKind}
use Rattle.owner_items.specs.ItemList.{uses}
use Rattle.owner_items.specs.Next.{release_order, items_left}
use Rattle.owner_core.specs.Steps.{Step, releases_of}
use Rattle.owner_core.proofs.release_items.release_each.Given as goal

abbrev pub invariant-loop-item : goal.invariant-loop-item
invariant-loop-item g l = record {
  fit : g.R.Release.IsFit l.table;
  same : g.R.Release.kind_table l.table ≡ g.R.Release.kind_table l.initial.table;
  kinds : All (λ item. IsKind (g.R.Release.kind_table l.initial.table) item.kind) l.items.items;
  left : items_left (g.R.Release.kind_table l.initial.table) l.phase l.items.items ≡ items_left (g.R.Release.kind_table l.initial.table) l.phase l.initial.items.items;
  counted : (kind : KindId) (key : ℕ) → g.R.Release.counted l.table kind key + uses kind key l.initial.items.items ≡ g.R.Release.counted l.initial.table kind key + uses kind key l.items.items;
  done : (steps : List Step) × (events : List What) × g.R.Release.does l.initial.table steps events l.table × g.E.Emit.emits l.initial.out events l.out
      × (steps ++ releases_of l.commit l.owner (release_order (g.R.Release.kind_table l.initial.table) l.phase l.items.items) ≡ releases_of l.commit l.owner (release_order (g.R.Release.kind_table l.initial.table) l.phase l.initial.items.items));
}

abbrev pub decreases-loop-item : goal.decreases-loop-item
decreases-loop-item g l = length (release_order (g.R.Release.kind_table l.initial.table) l.phase l.items.items)
