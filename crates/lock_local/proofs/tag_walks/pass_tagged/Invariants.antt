use Rattle.lock_local.proofs.Base.{AreLocks, AreTagged, drop, IsRising, List, passed, passes, What, ◌++◌, ◌≡◌}
use Rattle.lock_local.proofs.tag_walks.pass_tagged.Given as goal

abbrev pub invariant-loop-tag : goal.invariant-loop-tag
invariant-loop-tag g l = record {
  locks : AreLocks l.locks.items;
  rising : IsRising (drop l.tag-index l.tags);
  tagged : AreTagged l.from (drop l.tag-index l.tags) l.locks.items;
  same : passed l.from l.to l.locks.items ≡ passed l.from l.to l.initial.locks.items;
  told : (xs : List What) × g.E.Emit.emits l.initial.out xs l.out × (xs ++ passes l.from l.to l.locks.items ≡ passes l.from l.to l.initial.locks.items);
}
