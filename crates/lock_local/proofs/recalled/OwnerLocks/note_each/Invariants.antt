use Rattle.lock_local.proofs.Base.{false, is_tag, length, list_any, Mode, recalls, take, ℕ, ◌<◌, ◌||◌, ◌≡◌}
use Rattle.lock_local.proofs.recalled.OwnerLocks.note_each.Given as goal

abbrev pub invariant-loop-tag : goal.invariant-loop-tag
invariant-loop-tag l = record {
  owner : l.self.owner ≡ l.initial.self.owner;
  some : 0 < length l.initial.self.tags → 0 < length l.self.tags;
  just : l.self.more ≡ false → (l.initial.self.more ≡ false) × ((o : ℕ) (m : Mode) → recalls l.self o m ≡ (list_any (is_tag o m) (take l.tag-index l.tags) || recalls l.initial.self o m));
}
