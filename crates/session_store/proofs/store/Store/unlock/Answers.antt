-- The owner holds a lock once less, or nothing changed.
use Rattle.session_store.proofs.Words.{ap, sym, subst, lock_given_back, Serves, ResourceState, owners_of, StoreState}
use Rattle.session_store.proofs.Lemmas.{on_answer, go_same, owners_after, owners_alone_after, placed_owners}
use Rattle.session_store.proofs.store.Store.unlock.Goals as goal

pub invariant_of-self : goal.invariant_of-self
invariant_of-self g c =
    placed_owners _ _ _ _ _ c.self.invariant
    (go_same _ _ (ap owners_of c.unlock.ensures.locks_alone) (ap (λ (r : ResourceState). r.places) c.unlock.ensures.locks_alone) (ap (λ (r : ResourceState). r.plans) c.unlock.ensures.locks_alone))

pub returns-clause-acted : goal.returns-clause-acted
returns-clause-acted g c =
    on_answer c.unlock.result
    (λ acted s x. owners_after _ _ _ _ _ c.self.view_is (lock_given_back c.args.object c.args.mode c.args.owner.number) _ s x c.args.commons.now c.unlock.new.commons (λ events. g.E.Emit.emits c.args.out.now events c.unlock.new.out) acted c.unlock.ensures.balances)
    c.unlock.ensures.acted

pub returns-clause-alone : goal.returns-clause-alone
returns-clause-alone g c =
    on_answer c.unlock.result
    (λ acted. owners_alone_after _ _ _ _ _ c.self.view_is _ c.args.commons.now c.unlock.new.commons
    (go_same _ _ (ap owners_of c.unlock.ensures.locks_alone) (ap (λ (r : ResourceState). r.places) c.unlock.ensures.locks_alone) (ap (λ (r : ResourceState). r.plans) c.unlock.ensures.locks_alone)) c.unlock.ensures.balances)
    c.unlock.ensures.acted

pub unlock-requires : goal.unlock-requires
unlock-requires g c = subst (λ (v : StoreState). Serves v.owners c.args.commons.now) (sym c.self.view_is) c.requires
