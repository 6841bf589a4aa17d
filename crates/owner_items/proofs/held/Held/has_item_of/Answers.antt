use Rattle.std.proofs.Common.{◌≡◌, true, false}
use Rattle.owner_items.specs.declared.entry.Entry.{Entry}
use Rattle.owner_kinds.specs.KindShelf.{table_of}
use Rattle.owner_items.specs.Next.{is_of_phase}
use Rattle.owner_items.specs.Gathered.{rank}
use Rattle.owner_items.proofs.Parts.{All-step, rank-some, rank-none, all-from, all-recent, all-entries}
use Rattle.owner_items.proofs.held.Held.has_item_of.Goals as goal

pub returns-then-has_item-clause-some : goal.returns-then-has_item-clause-some
returns-then-has_item-clause-some g c that all =
    c.has_item.ensures.some that
    (All-step (λ item. is_of_phase (table_of c.args.kinds.now) c.args.phase item ≡ false)
    (λ item. rank (table_of c.args.kinds.now) c.args.phase item ≡ 0) (rank-none (table_of c.args.kinds.now) c.args.phase) _
    (rw c.as_slice.ensures.value
    (all-recent (λ item. is_of_phase (table_of c.args.kinds.now) c.args.phase item ≡ false) c.args.self.now.recent.items
    c.args.self.now.table.entries.items all)))

pub returns-else-has_item-clause-none : goal.returns-else-has_item-clause-none
returns-else-has_item-clause-none g c that =
    all-from (λ item. is_of_phase (table_of c.args.kinds.now) c.args.phase item ≡ false) c.args.self.now.recent.items
    c.args.self.now.table.entries.items
    (All-step (λ item. rank (table_of c.args.kinds.now) c.args.phase item ≡ 0)
    (λ item. is_of_phase (table_of c.args.kinds.now) c.args.phase item ≡ false) (rank-some (table_of c.args.kinds.now) c.args.phase) _
    (rw c.as_slice.ensures.value at (c.has_item.ensures.none c.if-has_item.false)))
    (All-step (λ (e : Entry). e.live ≡ true → rank (table_of c.args.kinds.now) c.args.phase e.item ≡ 0)
    (λ (e : Entry). e.live ≡ true → is_of_phase (table_of c.args.kinds.now) c.args.phase e.item ≡ false)
    (λ e none live. rank-some (table_of c.args.kinds.now) c.args.phase e.item (none live)) _
    (rw c.deref.ensures.value at (c.has_entry.ensures.none that)))

pub returns-else-has_item-clause-some : goal.returns-else-has_item-clause-some
returns-else-has_item-clause-some g c that all =
    c.has_entry.ensures.some that
    (All-step (λ (e : Entry). e.live ≡ true → is_of_phase (table_of c.args.kinds.now) c.args.phase e.item ≡ false)
    (λ (e : Entry). e.live ≡ true → rank (table_of c.args.kinds.now) c.args.phase e.item ≡ 0)
    (λ e none live. rank-none (table_of c.args.kinds.now) c.args.phase e.item (none live)) _
    (rw c.deref.ensures.value
    (all-entries (λ item. is_of_phase (table_of c.args.kinds.now) c.args.phase item ≡ false) c.args.self.now.recent.items
    c.args.self.now.table.entries.items all)))
