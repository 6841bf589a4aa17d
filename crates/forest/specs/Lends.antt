-- What an arena ends as, where a `&mut` to the data of a node is returned.
use Rattle.std.specs.Prelude.{ℕ}
use Rattle.std.specs.Borrow.{Lends, Fml, RattleType, MutBor}
use Rattle.forest.specs.Forest.{changed}
use Rattle.forest.specs.Forested.{Forested}
use Rattle.forest.specs.contracts.arena.LinkedForest.{the_row}

-- once the borrow r ends, the node's data is the last value written through r
abbrev pub lends_at : (T : RattleType) → MutBor (Forested T.Denot) → ℕ → MutBor T.Denot → Fml
lends_at T s n r = Lends (the_row T) T s r (λ w. record s.now { forest = changed n (λ _. w) s.now.forest })
