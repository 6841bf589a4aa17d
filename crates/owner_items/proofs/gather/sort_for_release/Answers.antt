use Rattle.std.proofs.Common.{rules, ◌≡◌, true}
use Rattle.std.proofs.lemmas.Fn.{always_returns_same}
use Rattle.std.proofs.lemmas.List.Sorted.{All-permutation}
use Rattle.owner_kinds.specs.KindShelf.{table_of}
use Rattle.owner_items.specs.declared.entry.Entry.{Entry}
use Rattle.owner_items.specs.Gathered.{rank}
use Rattle.owner_items.proofs.Ordered.{ordered, release_key}
use Rattle.owner_items.proofs.gather.sort_for_release.Goals as goal

pub returns-clause-in_order : goal.returns-clause-in_order
returns-clause-in_order g c =
    ordered (rank (table_of c.args.kinds.now) c.args.phase) c.sort_unstable_by_key.new.self.items
    (c.sort_unstable_by_key.ensures.sorted (release_key (rank (table_of c.args.kinds.now) c.args.phase))
    (always_returns_same _ _ _ (λ a r f' k. search rules)))
    (All-permutation (λ (e : Entry). e.live ≡ true) c.args.entries.now.items c.sort_unstable_by_key.new.self.items
    c.sort_unstable_by_key.ensures.permutation c.requires)
