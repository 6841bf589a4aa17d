use Rattle.std.proofs.Common.{arith}
use Rattle.owner_items.proofs.Indexed.{passed-number, newest_some, newest_free}
use Rattle.owner_items.proofs.index.Index.newest.Goals as goal
use Rattle.std.proofs.lemmas.Bool.Decides.{nat_tests}

pub returns-in_err-place : goal.returns-in_err-place
returns-in_err-place c = grind (arith, passed-number, c.from_residual.ensures, c.in_err-place.ensures)

pub returns-then-slot : goal.returns-then-slot
returns-then-slot c = grind (arith, nat_tests, newest_some c.args.self.now.slots.items c.args.self.now.used c.args.kind c.args.key c.in_ok-place.place c.index-slot.result.now, c.requires, c.in_ok-place.ensures, c.index-slot.ensures, c.if-slot.true)

pub returns-else-slot : goal.returns-else-slot
returns-else-slot c = grind (arith, nat_tests, newest_free c.args.self.now.slots.items c.args.self.now.used c.args.kind c.args.key c.in_ok-place.place c.index-slot.result.now, c.requires, c.in_ok-place.ensures, c.index-slot.ensures, c.if-slot.false)
