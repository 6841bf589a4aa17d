use Rattle.std.proofs.Common.{◌+◌, arith}
use Rattle.owner_items.proofs.Indexed.{some_free, put-index, put-numbers, free-known, count_free, count_taken}
use Rattle.owner_items.proofs.index.Index.put.Goals as goal
use Rattle.std.proofs.lemmas.Bool.Decides.{nat_tests}

pub returns-in_default-clause-numbers : goal.returns-in_default-clause-numbers
returns-in_default-clause-numbers c = grind (arith, nat_tests, some_free c.args.self.now.slots.items c.args.self.now.used c.args.kind c.args.key c.requires.index c.requires.room c.in_default.ensures, c.requires.index, c.requires.room, c.in_default.ensures)

pub returns-clause-index : goal.returns-clause-index
returns-clause-index c = grind (arith, nat_tests, put-index c.args.self.now.slots.items c.args.self.now.used (c.args.self.now.used + 1) c.args.kind c.args.key c.in-Some.place, put-index c.args.self.now.slots.items c.args.self.now.used c.args.self.now.used c.args.kind c.args.key c.in-Some.place, count_free c.args.self.now.slots.items c.in-Some.place c.args.self.now.used c.index.result.now, count_taken c.args.self.now.slots.items c.in-Some.place c.args.self.now.used c.index.result.now, c.requires.index, c.in-Some.ensures, c.in-Some.ensures.within, c.index.ensures)

pub returns-clause-numbers : goal.returns-clause-numbers
returns-clause-numbers c = grind (arith, nat_tests, put-numbers c.args.self.now.slots.items c.args.self.now.used c.args.kind c.args.key c.in-Some.place c.args.newest, c.requires.index, c.in-Some.ensures)

pub returns-clause-known : goal.returns-clause-known
returns-clause-known c known = grind (arith, nat_tests, free-known c.args.self.now.slots.items c.args.self.now.used c.args.kind c.args.key c.in-Some.place c.index.result.now, c.requires.index, c.in-Some.ensures, c.index.ensures)
