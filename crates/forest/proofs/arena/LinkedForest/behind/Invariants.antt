use Rattle.std.proofs.Common.{◌≡◌, true}
use Rattle.forest.specs.Forest.{Once, has}
use Rattle.forest.specs.Preorder.{behind_node, IsSpot}
use Rattle.forest.proofs.arena.LinkedForest.behind.Given as goal

abbrev pub invariant-loop-id : goal.invariant-loop-id
invariant-loop-id g l = record {
  once : Once l.self.forest;
  stands : has l.last.id.number l.self.forest ≡ true;
  spot : IsSpot l.self l.last;
  same : behind_node 0 l.fn.spot.id.number l.self.forest ≡ behind_node 0 l.last.id.number l.self.forest;
}

abbrev pub decreases-loop-id : goal.decreases-loop-id
decreases-loop-id g l = l.last.depth
