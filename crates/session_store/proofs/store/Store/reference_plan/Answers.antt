-- The owner remembers one reference to the plan more, or nothing changed.
use Rattle.session_store.proofs.Words.{plan_reference, item_taken}
use Rattle.session_store.proofs.Lemmas.{on_answer, go_changed, go_left, owners_after, owners_alone_after, placed_owners}
use Rattle.session_store.proofs.store.Store.reference_plan.Goals as goal

pub invariant_of-self : goal.invariant_of-self
invariant_of-self g c =
    placed_owners _ _ _ _ _ c.self.invariant
    (go_left c.reference_plan.result _ _ _ _ c.reference_plan.ensures.owners c.reference_plan.ensures.refused c.reference_plan.ensures.places c.reference_plan.ensures.left)

pub returns-clause-acted : goal.returns-clause-acted
returns-clause-acted g c =
    on_answer c.reference_plan.result
    (λ acted s x commons. owners_after _ _ _ _ _ c.self.view_is (item_taken c.args.owner.number plan_reference c.args.plan) _ s x commons commons (λ events. g.E.Emit.emits c.args.out.now events c.reference_plan.new.out) (acted commons) (c.reference_plan.ensures.balances commons))
    c.reference_plan.ensures.acted

pub returns-clause-alone : goal.returns-clause-alone
returns-clause-alone g c =
    on_answer c.reference_plan.result (λ is commons. owners_alone_after _ _ _ _ _ c.self.view_is _ commons commons (go_changed _ _ _ _ is c.reference_plan.ensures.places c.reference_plan.ensures.left) (c.reference_plan.ensures.balances commons)) c.reference_plan.ensures.owners
