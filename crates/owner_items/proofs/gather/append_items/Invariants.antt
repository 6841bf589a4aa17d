use Rattle.std.proofs.Common.{◌≡◌, ◌+◌, ◌++◌, map, take, vec_len, vec_capacity}
use Rattle.owner_items.specs.Gathered.{entry_with}
use Rattle.owner_items.proofs.gather.append_items.Given as goal

abbrev pub invariant-loop-item : goal.invariant-loop-item
invariant-loop-item l =
    record {
      items : l.entries.items ≡ l.initial.entries.items ++ map entry_with (take l.item-index l.items);
      len : vec_len l.entries ≡ vec_len l.initial.entries + l.item-index;
      capacity : vec_capacity l.entries ≡ vec_capacity l.initial.entries;
    }
