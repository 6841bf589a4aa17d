-- The owner remembers one reference more, or nothing changed.
use Rattle.session_store.proofs.Words.{item_taken}
use Rattle.session_store.proofs.Lemmas.{on_answer, go_answered, go_alone, owners_after, owners_alone_after, placed_owners}
use Rattle.session_store.proofs.store.Store.add_reference.Goals as goal

pub invariant_of-self : goal.invariant_of-self
invariant_of-self g c =
    placed_owners _ _ _ _ _ c.self.invariant
    (go_answered c.add_reference.result _ _ _ _ c.add_reference.ensures.owners c.add_reference.ensures.refused c.add_reference.ensures.places c.add_reference.ensures.plans)

pub returns-clause-acted : goal.returns-clause-acted
returns-clause-acted g c =
    on_answer c.add_reference.result
    (λ acted s x commons. owners_after _ _ _ _ _ c.self.view_is (item_taken c.args.owner.number c.args.class c.args.key) _ s x commons commons (λ events. g.E.Emit.emits c.args.out.now events c.add_reference.new.out) (acted commons) (c.add_reference.ensures.balances commons))
    c.add_reference.ensures.acted

pub returns-clause-alone : goal.returns-clause-alone
returns-clause-alone g c =
    on_answer c.add_reference.result (λ is commons. owners_alone_after _ _ _ _ _ c.self.view_is _ commons commons (go_alone _ _ _ _ is c.add_reference.ensures.places c.add_reference.ensures.plans) (c.add_reference.ensures.balances commons)) c.add_reference.ensures.owners
