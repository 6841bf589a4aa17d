use Rattle.std.proofs.Common.{reverse, arith}
use Rattle.owner_kinds.specs.KindShelf.{table_of}
use Rattle.owner_items.specs.Gathered.{rank}
use Rattle.owner_items.proofs.Sums.{same_list}
use Rattle.owner_items.proofs.Linked.{reverse-length}
use Rattle.owner_items.proofs.Parts.{rank-rows, gathered-sums, gathered-live, order-length}
use Rattle.owner_items.proofs.held.Held.gather.Goals as goal
use Rattle.std.proofs.lemmas.Bool.Decides.{nat_tests}

pub sort_for_release-requires : goal.sort_for_release-requires
sort_for_release-requires g c = grind (arith, gathered-live, c.append_items.ensures.items, c.keep_live.ensures.items, c.as_slice.ensures.value)

pub returns-clause-items : goal.returns-clause-items
returns-clause-items g c = grind (arith, same_list, gathered-sums, c.append_items.ensures.items, c.keep_live.ensures.items, c.as_slice.ensures.value, c.clear.ensures, c.requires.falling, c.sort_for_release.ensures.moved)

pub returns-clause-held : goal.returns-clause-held
returns-clause-held g c = grind (arith, nat_tests, rank-rows (table_of c.args.kinds.now) c.args.phase, returns-clause-items g c, order-length (rank (table_of c.args.kinds.now) c.args.phase) (reverse c.sort_for_release.new.entries.items) c.sort_for_release.ensures.in_order, reverse-length c.sort_for_release.new.entries.items, c.new.ensures.rows, c.new.ensures.phase, c.requires.falling, c.sort_for_release.ensures.in_order, c.clear.ensures)
