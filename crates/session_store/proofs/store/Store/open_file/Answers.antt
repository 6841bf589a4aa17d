-- The owner remembers one file more, or nothing changed.
use Rattle.session_store.proofs.Words.{file_kind, item_taken}
use Rattle.session_store.proofs.Lemmas.{on_answer, go_answered, go_alone, owners_after, owners_alone_after, placed_owners}
use Rattle.session_store.proofs.store.Store.open_file.Goals as goal

pub invariant_of-self : goal.invariant_of-self
invariant_of-self g c =
    placed_owners _ _ _ _ _ c.self.invariant
    (go_answered c.open_file.result _ _ _ _ c.open_file.ensures.owners c.open_file.ensures.refused c.open_file.ensures.places c.open_file.ensures.plans)

pub returns-clause-acted : goal.returns-clause-acted
returns-clause-acted g c =
    on_answer c.open_file.result
    (λ acted s x commons. owners_after _ _ _ _ _ c.self.view_is (item_taken c.args.owner.number file_kind c.args.file) _ s x commons commons (λ events. g.E.Emit.emits c.args.out.now events c.open_file.new.out) (acted commons) (c.open_file.ensures.balances commons))
    c.open_file.ensures.acted

pub returns-clause-alone : goal.returns-clause-alone
returns-clause-alone g c =
    on_answer c.open_file.result (λ is commons. owners_alone_after _ _ _ _ _ c.self.view_is _ commons commons (go_alone _ _ _ _ is c.open_file.ensures.places c.open_file.ensures.plans) (c.open_file.ensures.balances commons)) c.open_file.ensures.owners
