-- What a node ends as, where a `&mut` to its data is returned.
use Rattle.std.specs.Borrow.{Lends, Fml, RattleType, MutBor}
use Rattle.forest.specs.declared.links.Linked.{Linked}
use Rattle.forest.specs.contracts.links.Linked.{the_row}

-- once the borrow r ends, the data is the last value written through r
abbrev pub lends_value : (T : RattleType) → MutBor (Linked T.Denot) → MutBor T.Denot → Fml
lends_value T s r = Lends (the_row T) T s r (λ w. record s.now { value = w })
