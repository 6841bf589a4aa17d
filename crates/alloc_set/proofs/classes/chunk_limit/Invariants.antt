use Rattle.alloc_set.proofs.Base.{limit_class, ◌≡◌, ◌≤◌}
use Rattle.alloc_set.proofs.classes.chunk_limit.Given as goal

abbrev pub invariant-loop-class : goal.invariant-loop-class
invariant-loop-class l = record {
  last : l.class ≤ 10;
  same : limit_class l.class l.max ≡ limit_class 10 l.max;
}

abbrev pub decreases-loop-class : goal.decreases-loop-class
decreases-loop-class l = l.class
