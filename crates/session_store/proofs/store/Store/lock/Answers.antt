-- The owner holds a lock once more, or nothing changed.
use Rattle.session_store.proofs.Words.{◌≡◌, ◌↔◌, ℕ, Some, ap, sym, subst, IsErrOf, beside, least_conflict, lock_taken, Serves, ResourceState, owners_of, StoreState}
use Rattle.session_store.proofs.Lemmas.{on_answer, go_same, owners_after, owners_alone_after, placed_owners}
use Rattle.pgs_step.specs.declared.lock_modes.Mode.{Mode}
use Rattle.lock_local.specs.declared.errors.LockError.TheVariants.{Conflict}
use Rattle.session_store.proofs.store.Store.lock.Goals as goal

pub invariant_of-self : goal.invariant_of-self
invariant_of-self g c =
    placed_owners _ _ _ _ _ c.self.invariant
    (go_same _ _ (ap owners_of c.lock.ensures.locks_alone) (ap (λ (r : ResourceState). r.places) c.lock.ensures.locks_alone) (ap (λ (r : ResourceState). r.plans) c.lock.ensures.locks_alone))

pub returns-clause-conflict : goal.returns-clause-conflict
returns-clause-conflict g c = subst (λ (v : StoreState). (s : ℕ) (m : Mode) → IsErrOf c.lock.result (Conflict s m) ↔ (least_conflict c.args.object c.args.mode (beside v.owners.session c.args.commons.now.locks) ≡ Some (s, m))) c.self.view_is c.lock.ensures.conflict

pub returns-clause-acted : goal.returns-clause-acted
returns-clause-acted g c =
    on_answer c.lock.result
    (λ acted s x. owners_after _ _ _ _ _ c.self.view_is (lock_taken c.args.object c.args.mode c.args.owner.number) _ s x c.args.commons.now c.lock.new.commons (λ events. g.E.Emit.emits c.args.out.now events c.lock.new.out) acted c.lock.ensures.balances)
    c.lock.ensures.acted

pub returns-clause-alone : goal.returns-clause-alone
returns-clause-alone g c =
    on_answer c.lock.result
    (λ acted. owners_alone_after _ _ _ _ _ c.self.view_is _ c.args.commons.now c.lock.new.commons
    (go_same _ _ (ap owners_of c.lock.ensures.locks_alone) (ap (λ (r : ResourceState). r.places) c.lock.ensures.locks_alone) (ap (λ (r : ResourceState). r.plans) c.lock.ensures.locks_alone)) c.lock.ensures.balances)
    c.lock.ensures.acted

pub lock-requires : goal.lock-requires
lock-requires g c = subst (λ (v : StoreState). Serves v.owners c.args.commons.now) (sym c.self.view_is) c.requires
