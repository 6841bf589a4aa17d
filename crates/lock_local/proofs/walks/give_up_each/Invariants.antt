use Rattle.lock_local.proofs.Base.{drop, holds, is_held, IsInOrder, map, Mode, OthersStay, releases, take, without, ℕ, ◌++◌, ◌≡◌}
use Rattle.lock_local.proofs.walks.give_up_each.Given as goal

abbrev pub invariant-loop-lock : goal.invariant-loop-lock
invariant-loop-lock g l = record {
  in_order : IsInOrder l.locks;
  locks : l.locks ≡ map (without l.owner) (take l.lock-index l.initial.locks) ++ drop l.lock-index l.initial.locks;
  events : g.E.Emit.emits l.initial.out (releases l.owner (take l.lock-index l.initial.locks)) l.out;
  agrees : (o : ℕ) (m : Mode) → holds l.shared o m l.session ≡ is_held l.locks o m;
  others : OthersStay l.session l.initial.shared l.shared;
}
