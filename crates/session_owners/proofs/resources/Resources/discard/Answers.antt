use Rattle.session_owners.proofs.Base.{List, ap, subst, sym, refl, ◌∙◌}
use Rattle.session_owners.proofs.Words.{What, removed, gone_events, AllAt, HoldsNothing, ResourceState, owners_of}
use Rattle.session_owners.proofs.Lemmas.{counted_gone, acted_gone, state_of, balances_gone, locks_stay}
use Rattle.session_owners.proofs.resources.Resources.discard.Goals as goal

pub invariant_of-self : goal.invariant_of-self
invariant_of-self g c =
    counted_gone c.self.inside.owners _ _ c.args.owner.number c.self.invariant
    (subst (λ (t : ResourceState). AllAt HoldsNothing c.args.owner.number (owners_of t)) (sym c.self.view_is) c.requires.empty)
    c.discard.ensures.owners c.discard.ensures.next_owner c.discard.ensures.next_serial

pub returns-clause-balances : goal.returns-clause-balances
returns-clause-balances g c =
    λ commons. balances_gone c.self.inside.owners c.self.inside.tables _ _ commons c.args.owner.number c.self.invariant (sym (ap owners_of c.self.view_is)) c.requires.empty c.discard.ensures.owners
    (locks_stay (state_of c.self.inside.owners c.self.inside.tables.files c.self.inside.locks c.self.inside.tables.snapshots.stack c.self.inside.tables.plans) _ _ commons.locks c.self.view_is refl)

pub returns-clause-acted : goal.returns-clause-acted
returns-clause-acted g c =
    λ commons.
    let says : List What → Type 0 = λ (events : List What). g.E.Emit.emits c.args.out.now events c.discard.new.out in
    let now : ResourceState = state_of c.discard.new.self c.self.inside.tables.files c.self.inside.locks c.self.inside.tables.snapshots.stack c.self.inside.tables.plans in
    acted_gone _ _ now commons says (c.discard.ensures.owners ∙ ap (λ (t : ResourceState). removed c.args.owner.number (owners_of t)) c.self.view_is)
    (c.discard.ensures.next_owner ∙ ap (λ (t : ResourceState). t.next_owner) c.self.view_is) (c.discard.ensures.next_serial ∙ ap (λ (t : ResourceState). t.next_serial) c.self.view_is)
    (record { recent = ap (λ (t : ResourceState). t.recent) c.self.view_is; descriptors = ap (λ (t : ResourceState). t.descriptors) c.self.view_is })
    (record { session = ap (λ (t : ResourceState). t.session) c.self.view_is; locks = ap (λ (t : ResourceState). t.locks) c.self.view_is; stack = ap (λ (t : ResourceState). t.stack) c.self.view_is; plans = ap (λ (t : ResourceState). t.plans) c.self.view_is })
    (returns-clause-balances g c commons).pins (subst (λ (t : ResourceState). says (gone_events c.args.owner.number (owners_of t))) c.self.view_is c.discard.ensures.emits)
