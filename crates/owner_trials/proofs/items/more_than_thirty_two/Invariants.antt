use Rattle.std.proofs.Common.{All}
use Rattle.owner_kinds.specs.KindTable.{IsBuiltIn}
use Rattle.owner_trials.proofs.items.more_than_thirty_two.Given as goal

abbrev pub invariant-loop-half : goal.invariant-loop-half
invariant-loop-half g l = All (λ item. IsBuiltIn item.kind) l.items.items

abbrev pub invariant-loop-half-2 : goal.invariant-loop-half-2
invariant-loop-half-2 g l = All (λ item. IsBuiltIn item.kind) l.items.items
