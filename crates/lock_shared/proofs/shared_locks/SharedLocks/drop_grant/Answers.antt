use Rattle.lock_shared.proofs.Lemmas.{sets_struck}
use Rattle.lock_shared.proofs.shared_locks.SharedLocks.drop_grant.Goals as goal

pub returns : goal.returns
returns c = rw (← c.self.view_is) (sets_struck c.self.inside.objects.entries c.strike.new.objects.entries _ _ _ c.self.invariant c.strike.ensures.kept c.strike.ensures.left)
