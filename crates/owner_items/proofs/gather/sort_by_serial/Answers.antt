use Rattle.std.proofs.Common.{rules}
use Rattle.std.proofs.lemmas.List.Sorted.{IsNonDecreasingBy-from_sort_by_key}
use Rattle.owner_items.specs.declared.entry.Entry.{Entry}
use Rattle.owner_items.proofs.gather.sort_by_serial.Goals as goal

pub returns-clause-rising : goal.returns-clause-rising
returns-clause-rising c =
    IsNonDecreasingBy-from_sort_by_key (λ (e : Entry). e.item.serial) _ c.sort_unstable_by_key.ensures.sorted (λ a r q k. search rules)
