use Rattle.lock_local.proofs.Base.{count_if, sum_by, take, ◌≡◌}
use Rattle.lock_local.proofs.local_lock.count_of.Given as goal

abbrev pub invariant-loop-each : goal.invariant-loop-each
invariant-loop-each l = l.count ≡ sum_by (count_if l.owner) (take l.each-index l.owners)
