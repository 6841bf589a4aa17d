use Rattle.std.proofs.Common.{◌≡◌, map, take, All}
use Rattle.owner_kinds.specs.KindTable.{row}
use Rattle.owner_kinds.specs.Place.{IsPlace}
use Rattle.owner_kinds.proofs.kind_shelf.rows_of.Given as goal

abbrev pub invariant-loop-kind : goal.invariant-loop-kind
invariant-loop-kind g l =
    record {
      rows :
          l.rows.items
          ≡ map (λ kind. row (g.K.ExtKind.kind_meaning kind).phase (g.K.ExtKind.kind_meaning kind).priority) (take l.kind-index l.kinds);
      places : All IsPlace l.rows.items;
    }
