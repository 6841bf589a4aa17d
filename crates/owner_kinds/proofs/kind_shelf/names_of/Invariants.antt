use Rattle.std.proofs.Common.{◌≡◌, map, take}
use Rattle.owner_kinds.proofs.kind_shelf.names_of.Given as goal

abbrev pub invariant-loop-kind : goal.invariant-loop-kind
invariant-loop-kind g l = l.names.items ≡ map (λ kind. (g.K.ExtKind.kind_meaning kind).name) (take l.kind-index l.kinds)
