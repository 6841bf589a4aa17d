-- What an owner and those below it hold is among what all owners hold.
use Rattle.std.proofs.Common.{ℕ, ◌≤◌, arith}
use Rattle.pgs_step.specs.declared.ids.KindId.{KindId}
use Rattle.forest.specs.Forest.{Empty, Node}
use Rattle.forest.proofs.Trees.{at_absent, at_some}
use Rattle.owner_core.specs.Owners.{OwnerTree, held, subtree_of}
use Rattle.std.proofs.lemmas.Bool.Decides.{nat_tests}

pub held_below : (kind : KindId) (key n : ℕ) (t : OwnerTree) → held kind key (subtree_of n t) ≤ held kind key t
held_below kind key n Empty = omega arith
held_below kind key n (Node k a below beside) = grind (arith, nat_tests, at_some, held_below kind key n below, held_below kind key n beside, at_absent)
