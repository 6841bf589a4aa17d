use Rattle.std.proofs.Common.{◌≡◌, ◌+◌}
use Rattle.forest.specs.Forest.{Once, is_above}
use Rattle.forest.specs.Forested.{IsPlaced}
use Rattle.forest.specs.Preorder.{level, left_from}
use Rattle.forest.proofs.arena.LinkedForest.is_above.Given as goal

abbrev pub invariant-loop-parent : goal.invariant-loop-parent
invariant-loop-parent g l = record {
  once : Once l.self.forest;
  placed : IsPlaced l.self l.last;
  spot : IsPlaced l.self l.seen;
  same : is_above l.id.number l.last.number l.self.forest ≡ is_above l.id.number l.fn.other.number l.self.forest;
  count : left_from l.id.number l.self.forest + level 0 l.last.number l.self.forest ≡ left_from l.seen.number l.self.forest + level 0 l.fn.other.number l.self.forest;
}

abbrev pub decreases-loop-parent : goal.decreases-loop-parent
decreases-loop-parent g l = level 0 l.last.number l.self.forest
