use Rattle.std.proofs.Common.{◌≡◌, ◌+◌, ◌++◌, ◌≤◌, length, reverse, take, vec_len, vec_capacity}
use Rattle.owner_items.specs.Table.{IsTable, live_items}
use Rattle.owner_items.proofs.table.Table.push_all.Given as goal

abbrev pub invariant-loop-item : goal.invariant-loop-item
invariant-loop-item l =
    record {
      table : IsTable l.self.entries.items l.self.live l.self.index.slots.items l.self.index.used;
      items :
          live_items (reverse l.self.entries.items)
          ≡ reverse (take l.item-index l.items) ++ live_items (reverse l.initial.self.entries.items);
      len : vec_len l.self.entries ≡ vec_len l.initial.self.entries + l.item-index;
      capacity : vec_capacity l.self.entries ≡ vec_capacity l.initial.self.entries;
      used : l.self.index.used ≤ l.initial.self.index.used + l.item-index;
      slots : length l.self.index.slots.items ≡ length l.initial.self.index.slots.items;
    }
