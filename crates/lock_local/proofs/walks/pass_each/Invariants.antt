use Rattle.lock_local.proofs.Base.{drop, map, passed_lock, passes, take, ◌++◌, ◌≡◌}
use Rattle.lock_local.proofs.walks.pass_each.Given as goal

abbrev pub invariant-loop-lock : goal.invariant-loop-lock
invariant-loop-lock g l = record {
  locks : l.locks ≡ map (passed_lock l.from l.to) (take l.lock-index l.initial.locks) ++ drop l.lock-index l.initial.locks;
  events : g.E.Emit.emits l.initial.out (passes l.from l.to (take l.lock-index l.initial.locks)) l.out;
}
