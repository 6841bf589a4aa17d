use Rattle.std.proofs.Common.{◌≡◌, true}
use Rattle.forest.specs.Forest.{Once, has}
use Rattle.forest.specs.Forested.{IsPlaced}
use Rattle.forest.specs.Preorder.{level, left_behind}
use Rattle.forest.proofs.arena.LinkedForest.next_beside.Given as goal

abbrev pub invariant-loop-last : goal.invariant-loop-last
invariant-loop-last g l = record {
  once : Once l.self.forest;
  stands : has l.last.number l.self.forest ≡ true;
  placed : IsPlaced l.self l.last;
  same : left_behind l.fn.id.number l.self.forest ≡ left_behind l.last.number l.self.forest;
}

abbrev pub decreases-loop-last : goal.decreases-loop-last
decreases-loop-last g l = level 0 l.last.number l.self.forest
