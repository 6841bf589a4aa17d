use Rattle.lock_local.proofs.Base.{arith}
use Rattle.lock_local.proofs.Lemmas.{sum_so_far}
use Rattle.lock_local.proofs.local_lock.count_of.Goals as goal

pub overflow_add-count : goal.overflow_add-count
overflow_add-count c = omega (arith, c.loop-each.invariant, c.requires, sum_so_far c.args.owner c.args.owners.now c.loop-each.each-index (record { owner = 0; count = 0 }) c.loop-each-test.true)
