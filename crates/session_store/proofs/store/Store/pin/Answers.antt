-- The owner remembers one pin more.
use Rattle.session_store.proofs.Words.{sym, subst, buffer_pin, item_taken, Serves, StoreState}
use Rattle.session_store.proofs.Lemmas.{go_alone, owners_after, owners_alone_after, placed_owners}
use Rattle.session_store.proofs.store.Store.pin.Goals as goal

pub invariant_of-self : goal.invariant_of-self
invariant_of-self g c = placed_owners _ _ _ _ _ c.self.invariant (go_alone _ _ _ _ c.pin.ensures.owners c.pin.ensures.places c.pin.ensures.plans)

pub returns-clause-acted : goal.returns-clause-acted
returns-clause-acted g c s x = owners_after _ _ _ _ _ c.self.view_is (item_taken c.args.owner.number buffer_pin c.args.buffer) _ s x c.args.commons.now c.pin.new.commons (λ events. g.E.Emit.emits c.args.out.now events c.pin.new.out) c.pin.ensures.acted c.pin.ensures.balances

pub returns-clause-alone : goal.returns-clause-alone
returns-clause-alone g c = owners_alone_after _ _ _ _ _ c.self.view_is _ c.args.commons.now c.pin.new.commons (go_alone _ _ _ _ c.pin.ensures.owners c.pin.ensures.places c.pin.ensures.plans) c.pin.ensures.balances

pub pin-requires-clause-serves : goal.pin-requires-clause-serves
pin-requires-clause-serves g c = subst (λ (v : StoreState). Serves v.owners c.args.commons.now) (sym c.self.view_is) c.requires.serves
