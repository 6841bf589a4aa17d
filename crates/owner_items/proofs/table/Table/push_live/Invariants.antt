use Rattle.std.proofs.Common.{◌≡◌, ◌≤◌, length, reverse, take, vec_len, vec_capacity}
use Rattle.owner_items.specs.Table.{IsTable, live_items}
use Rattle.owner_items.proofs.table.Table.push_live.Given as goal

abbrev pub invariant-loop-entry : goal.invariant-loop-entry
invariant-loop-entry l =
    record {
      table : IsTable l.self.entries.items l.self.live l.self.index.slots.items l.self.index.used;
      items : live_items (reverse l.self.entries.items) ≡ live_items (reverse (take l.entry-index l.entries));
      len : vec_len l.self.entries ≡ length (live_items (reverse (take l.entry-index l.entries)));
      capacity : vec_capacity l.self.entries ≡ vec_capacity l.initial.self.entries;
      used : l.self.index.used ≤ length (live_items (reverse (take l.entry-index l.entries)));
      slots : length l.self.index.slots.items ≡ length l.initial.self.index.slots.items;
    }
