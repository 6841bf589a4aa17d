-- The owner remembers one item more, of an extension kind, or nothing changed.
use Rattle.session_store.proofs.Words.{sym, subst, item_taken, Serves, StoreState}
use Rattle.session_store.proofs.Lemmas.{on_answer, go_answered, go_alone, owners_after, owners_alone_after, placed_owners}
use Rattle.session_store.proofs.store.Store.take_extension.Goals as goal

pub invariant_of-self : goal.invariant_of-self
invariant_of-self g c =
    placed_owners _ _ _ _ _ c.self.invariant
    (go_answered c.take_extension.result _ _ _ _ c.take_extension.ensures.owners c.take_extension.ensures.refused c.take_extension.ensures.places c.take_extension.ensures.plans)

pub returns-clause-acted : goal.returns-clause-acted
returns-clause-acted g c =
    on_answer c.take_extension.result
    (λ acted s x. owners_after _ _ _ _ _ c.self.view_is (item_taken c.args.owner.number c.args.kind c.args.key) _ s x c.args.commons.now c.take_extension.new.commons (λ events. g.E.Emit.emits c.args.out.now events c.take_extension.new.out) acted c.take_extension.ensures.balances)
    c.take_extension.ensures.acted

pub returns-clause-alone : goal.returns-clause-alone
returns-clause-alone g c =
    on_answer c.take_extension.result (λ is. owners_alone_after _ _ _ _ _ c.self.view_is _ c.args.commons.now c.take_extension.new.commons (go_alone _ _ _ _ is c.take_extension.ensures.places c.take_extension.ensures.plans) c.take_extension.ensures.balances) c.take_extension.ensures.owners

pub take_extension-requires-clause-serves : goal.take_extension-requires-clause-serves
take_extension-requires-clause-serves g c = subst (λ (v : StoreState). Serves v.owners c.args.commons.now) (sym c.self.view_is) c.requires.serves
