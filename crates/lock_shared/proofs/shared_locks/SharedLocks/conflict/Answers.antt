use Rattle.lock_shared.proofs.Base.{List, subst}
use Rattle.lock_shared.proofs.Words.{IsLeastOf, held_on, Holding}
use Rattle.lock_shared.proofs.Lemmas.{none_found, free_found, conflict_found, found_is_beside}
use Rattle.lock_shared.proofs.shared_locks.SharedLocks.conflict.Goals as goal

pub returns : goal.returns
returns c =
    let es = c.self.inside.objects.entries in
    let found : IsLeastOf (held_on es c.args.object) c.args.object c.args.mode c.args.session c.least_blocking.result =
    subst (λ (zs : List Holding). IsLeastOf zs c.args.object c.args.mode c.args.session c.least_blocking.result) c.holdings_on.ensures c.least_blocking.ensures in
    rw (← c.self.view_is) (record {
      none = (none_found es _ _ _ _ c.self.invariant found, free_found es _ _ _ _ c.self.invariant found);
      least = conflict_found es _ _ _ _ c.self.invariant found;
      beside = found_is_beside _ _ _ _ _ (none_found es _ _ _ _ c.self.invariant found) (conflict_found es _ _ _ _ c.self.invariant found);
    })
