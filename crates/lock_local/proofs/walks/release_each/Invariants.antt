use Rattle.lock_local.proofs.Base.{drop, holds, is_held, Mode, OthersStay, releases_of_all, take, ℕ, ◌≡◌}
use Rattle.lock_local.proofs.walks.release_each.Given as goal

abbrev pub invariant-loop-lock : goal.invariant-loop-lock
invariant-loop-lock g l = record {
  events : g.E.Emit.emits l.initial.out (releases_of_all l.top (take l.lock-index l.locks)) l.out;
  agrees : (o : ℕ) (m : Mode) → holds l.shared o m l.session ≡ is_held (drop l.lock-index l.locks) o m;
  others : OthersStay l.session l.initial.shared l.shared;
}
