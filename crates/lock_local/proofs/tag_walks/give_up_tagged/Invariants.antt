use Rattle.lock_local.proofs.Base.{AreLocks, AreTagged, drop, holds, is_held, IsRising, List, Mode, OthersStay, released, releases, What, ℕ, ◌++◌, ◌≡◌}
use Rattle.lock_local.proofs.tag_walks.give_up_tagged.Given as goal

abbrev pub invariant-loop-tag : goal.invariant-loop-tag
invariant-loop-tag g l = record {
  locks : AreLocks l.locks.items;
  rising : IsRising (drop l.tag-index l.tags);
  tagged : AreTagged l.owner (drop l.tag-index l.tags) l.locks.items;
  same : released l.owner l.locks.items ≡ released l.owner l.initial.locks.items;
  told : (xs : List What) × g.E.Emit.emits l.initial.out xs l.out × (xs ++ releases l.owner l.locks.items ≡ releases l.owner l.initial.locks.items);
  agrees : (o : ℕ) (m : Mode) → holds l.shared o m l.session ≡ is_held l.locks.items o m;
  others : OthersStay l.session l.initial.shared l.shared;
}
