use Rattle.std.proofs.Common.{sym}
use Rattle.std.specs.Cmp.{nat_eq_equiv}
use Rattle.std.proofs.lemmas.Map.Entries.{lookup_from_place}
use Rattle.held_groups.proofs.places.place_at.Goals as goal

pub returns-clause-place : goal.returns-clause-place
returns-clause-place c = lookup_from_place nat_eq_equiv c.args.places.now.entries c.args.place c.in-Some.group.now c.in-Some.at.now c.len.ensures.unique (sym c.in-Some.ensures.entry)
