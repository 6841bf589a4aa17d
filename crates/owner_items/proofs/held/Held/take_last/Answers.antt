use Rattle.std.proofs.Common.{◌-◌, vec_len, arith}
use Rattle.owner_kinds.specs.KindShelf.{table_of}
use Rattle.owner_items.proofs.Parts.{ready-none, ready-next, ready-count, state-rest, next-falling}
use Rattle.owner_items.proofs.held.Held.take_last.Goals as goal
use Rattle.std.proofs.lemmas.Bool.Decides.{nat_tests}

pub returns-then-rank_of-eq0-clause-next : goal.returns-then-rank_of-eq0-clause-next
returns-then-rank_of-eq0-clause-next g c = grind (arith, ready-none, c.deref.ensures.value, c.in_ok-last.ensures.value, c.requires.ready.ready, c.rank_of.ensures.rank, c.if-rank_of-eq0.true)

pub returns-clause-next : goal.returns-clause-next
returns-clause-next g c = grind (arith, nat_tests, vec_len c.args.self.now.table.entries, ready-next (table_of c.args.kinds.now) c.args.phase c.args.self.now.recent.items c.args.self.now.table.entries.items c.pop.new.self.items, c.pop.ensures.rest, c.deref.ensures.value, c.in_ok-last.ensures.value, c.requires.ready.ready, c.if-rank_of-eq0.false, c.rank_of.ensures.rank, c.rank_of.ensures.low)

pub returns-clause-held : goal.returns-clause-held
returns-clause-held g c = grind (arith, nat_tests, vec_len c.args.self.now.table.entries, next-falling (table_of c.args.kinds.now) c.args.phase, returns-clause-next g c, ready-count (table_of c.args.kinds.now) c.args.phase c.args.self.now.recent.items c.args.self.now.table.entries.items, state-rest c.args.self.now.order c.args.self.now.recent.items c.args.self.now.table.entries.items c.pop.new.self.items, c.pop.ensures.rest, c.deref.ensures.value, c.in_ok-last.ensures.value, c.requires.held.falling, c.requires.ready.ready, c.requires.held.counted, c.requires.held.few, c.requires.held.room, c.requires.ready.some, c.requires.held.state)
