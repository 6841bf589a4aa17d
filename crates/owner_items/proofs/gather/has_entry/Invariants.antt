use Rattle.std.proofs.Common.{◌≡◌, ◌<◌, ℕ, get_or, true}
use Rattle.owner_items.specs.declared.entry.Entry.{Entry}
use Rattle.owner_kinds.specs.KindShelf.{table_of}
use Rattle.owner_items.specs.Gathered.{rank}
use Rattle.owner_items.proofs.gather.has_entry.Given as goal

abbrev pub invariant-loop-entry : goal.invariant-loop-entry
invariant-loop-entry g l =
    (k : ℕ) (d : Entry) → k < l.entry-index → (get_or l.entries k d).live ≡ true →
    rank (table_of l.kinds) l.phase (get_or l.entries k d).item ≡ 0
