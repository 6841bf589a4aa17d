-- An owner moves where it is there, and so is its parent.
use Rattle.session_owners.proofs.Base.{List, ap, subst, sym, refl, ◌∙◌}
use Rattle.session_owners.proofs.Words.{What, moved, Moves, ResourceState, owners_of}
use Rattle.session_owners.proofs.Lemmas.{counted_moved, acted_moved, state_of, balances_moved, locks_stay}
use Rattle.session_owners.proofs.resources.Resources.move_owner.Goals as goal

pub invariant_of-self : goal.invariant_of-self
invariant_of-self g c =
    let w : Moves c.args.owner.number c.args.parent.number (owners_of c.args.self.now) = record { node = c.requires.there.0; parent = c.requires.there.1; other = c.requires.other; apart = c.requires.apart } in
    counted_moved c.self.inside.owners _ _ c.args.owner.number c.args.parent.number c.self.invariant
    (subst (λ (t : ResourceState). Moves c.args.owner.number c.args.parent.number (owners_of t)) (sym c.self.view_is) w)
    c.new_parent.ensures.owners c.new_parent.ensures.next_owner c.new_parent.ensures.next_serial

pub returns-clause-balances : goal.returns-clause-balances
returns-clause-balances g c =
    λ commons.
    let w : Moves c.args.owner.number c.args.parent.number (owners_of c.args.self.now) = record { node = c.requires.there.0; parent = c.requires.there.1; other = c.requires.other; apart = c.requires.apart } in
    balances_moved c.self.inside.owners c.self.inside.tables _ _ commons c.args.owner.number c.args.parent.number c.self.invariant (sym (ap owners_of c.self.view_is))
    (subst (λ (t : ResourceState). Moves c.args.owner.number c.args.parent.number (owners_of t)) (sym c.self.view_is) w) c.new_parent.ensures.owners
    (locks_stay (state_of c.self.inside.owners c.self.inside.tables.files c.self.inside.locks c.self.inside.tables.snapshots.stack c.self.inside.tables.plans) _ _ commons.locks c.self.view_is refl)

pub returns-clause-acted : goal.returns-clause-acted
returns-clause-acted g c =
    λ commons.
    let says : List What → Type 0 = λ (events : List What). g.E.Emit.emits c.args.out.now events c.new_parent.new.out in
    let now : ResourceState = state_of c.new_parent.new.self c.self.inside.tables.files c.self.inside.locks c.self.inside.tables.snapshots.stack c.self.inside.tables.plans in
    acted_moved _ _ _ now commons says (c.new_parent.ensures.owners ∙ ap (λ (t : ResourceState). moved c.args.owner.number c.args.parent.number (owners_of t)) c.self.view_is)
    (c.new_parent.ensures.next_owner ∙ ap (λ (t : ResourceState). t.next_owner) c.self.view_is) (c.new_parent.ensures.next_serial ∙ ap (λ (t : ResourceState). t.next_serial) c.self.view_is)
    (record { recent = ap (λ (t : ResourceState). t.recent) c.self.view_is; descriptors = ap (λ (t : ResourceState). t.descriptors) c.self.view_is })
    (record { session = ap (λ (t : ResourceState). t.session) c.self.view_is; locks = ap (λ (t : ResourceState). t.locks) c.self.view_is; stack = ap (λ (t : ResourceState). t.stack) c.self.view_is; plans = ap (λ (t : ResourceState). t.plans) c.self.view_is })
    (returns-clause-balances g c commons).pins c.new_parent.ensures.emits
