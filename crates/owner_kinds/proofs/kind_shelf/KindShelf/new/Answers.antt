use Rattle.std.proofs.Common.{rules}
use Rattle.owner_kinds.proofs.Places.{made_shelf}
use Rattle.owner_kinds.proofs.kind_shelf.KindShelf.new.Goals as goal

pub invariant_of-result : goal.invariant_of-result
invariant_of-result g c =
    made_shelf g.K.ExtKind.kind_meaning c.args.kinds.items c.in_ok-names.names.items c.in_ok-rows.rows.items
    (rw c.deref.ensures.value at c.in_ok-names.ensures) (rw c.deref-2.ensures.value at c.in_ok-rows.ensures.rows)
    (search rules) c.requires.different c.in_ok-rows.ensures.places

pub returns-clause-sound : goal.returns-clause-sound
returns-clause-sound g c = (invariant_of-result g c).sound
