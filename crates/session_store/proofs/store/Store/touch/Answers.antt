-- A file has a descriptor, or nothing changed.
use Rattle.session_store.proofs.Words.{descriptor_given}
use Rattle.session_store.proofs.Lemmas.{on_answer, go_same, owners_after, owners_alone_after, placed_owners}
use Rattle.session_store.proofs.store.Store.touch.Goals as goal

pub invariant_of-self : goal.invariant_of-self
invariant_of-self g c = placed_owners _ _ _ _ _ c.self.invariant (go_same _ _ c.touch.ensures.owners c.touch.ensures.places c.touch.ensures.plans)

pub returns-clause-acted : goal.returns-clause-acted
returns-clause-acted g c =
    on_answer c.touch.result
    (λ acted s x commons. owners_after _ _ _ _ _ c.self.view_is (descriptor_given c.args.file) _ s x commons commons (λ events. g.E.Emit.emits c.args.out.now events c.touch.new.out) (acted commons) (c.touch.ensures.balances commons))
    c.touch.ensures.acted

pub returns-clause-alone : goal.returns-clause-alone
returns-clause-alone g c =
    on_answer c.touch.result (λ acted commons. owners_alone_after _ _ _ _ _ c.self.view_is _ commons commons (go_same _ _ c.touch.ensures.owners c.touch.ensures.places c.touch.ensures.plans) (c.touch.ensures.balances commons)) c.touch.ensures.acted
