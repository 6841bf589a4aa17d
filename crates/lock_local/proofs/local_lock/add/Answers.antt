use Rattle.lock_local.proofs.Base.{◌∙◌}
use Rattle.lock_local.proofs.Lemmas.{added_none, added_over, found, no_count, not_found}
use Rattle.lock_local.proofs.local_lock.add.Goals as goal

pub returns-in-Some-clause-ok : goal.returns-in-Some-clause-ok
returns-in-Some-clause-ok c = added_over _ _ c.args.owners.now _ _ (found _ _ _ _ _ _ c.place_of.ensures c.as_slice.ensures c.in-Some.is) c.deref_mut.ensures.value

pub returns-in_ok-push-in-None-clause-ok : goal.returns-in_ok-push-in-None-clause-ok
returns-in_ok-push-in-None-clause-ok c = c.in_ok-push-in-None.ensures.ok ∙ added_none _ _ _ no_count (not_found _ _ _ _ _ c.place_of.ensures c.as_slice.ensures c.in-None.is)
