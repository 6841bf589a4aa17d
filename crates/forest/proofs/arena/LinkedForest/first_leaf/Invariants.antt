use Rattle.std.proofs.Common.{◌≡◌}
use Rattle.forest.specs.Forest.{Once, children, size}
use Rattle.forest.specs.Forested.{IsPlaced}
use Rattle.forest.specs.Walk.{lead}
use Rattle.forest.proofs.arena.LinkedForest.first_leaf.Given as goal

abbrev pub invariant-loop-child : goal.invariant-loop-child
invariant-loop-child g l = record {
  once : Once l.self.forest;
  placed : IsPlaced l.self l.leaf;
  same : lead l.leaf.number (children l.leaf.number l.self.forest) ≡ lead l.fn.id.number (children l.fn.id.number l.self.forest);
}

abbrev pub decreases-loop-child : goal.decreases-loop-child
decreases-loop-child g l = size (children l.leaf.number l.self.forest)
