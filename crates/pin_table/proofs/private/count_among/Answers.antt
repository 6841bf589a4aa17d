use Rattle.std.proofs.Common.{sym}
use Rattle.pin_table.proofs.Places.{lookup_placed, lookup_missed}
use Rattle.pin_table.proofs.private.count_among.Goals as goal

pub returns-in-Some : goal.returns-in-Some
returns-in-Some c = sym (lookup_placed c.args.buffer c.args.few.now c.place_of.result c.place_of.ensures c.in-Some.at (0, 0) c.in-Some.is)

pub returns-in-None : goal.returns-in-None
returns-in-None c = sym (lookup_missed c.args.buffer c.args.few.now c.place_of.result c.place_of.ensures c.in-None.is)
