use Rattle.std.proofs.Common.{refl}
use Rattle.owner_items.specs.Index.{start}
use Rattle.owner_items.proofs.index.start_of.Goals as goal

pub returns-clause-place : goal.returns-clause-place
unfolding start
returns-clause-place c = refl
