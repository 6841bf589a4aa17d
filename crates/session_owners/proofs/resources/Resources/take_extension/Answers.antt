use Rattle.session_owners.proofs.Base.{arith, ◌≤◌, ap, refl, subst, sym}
use Rattle.session_owners.proofs.Words.{CommonState, LocksBalance-nothing, ResourceState, owners_of, spare_of}
use Rattle.session_owners.proofs.Lemmas.{acted_extension, state_of, balances_extended, locks_moved, serves_still, counted_extended}
use Rattle.session_owners.proofs.resources.Resources.take_extension.Goals as goal

pub invariant_of-self : goal.invariant_of-self
invariant_of-self g c =
    counted_extended c.self.inside.owners _ c.self.inside.tables c.args.owner.number c.args.kind c.args.key c.self.invariant
    (subst (λ (t : ResourceState). 1 ≤ spare_of c.args.owner.number t) (sym c.self.view_is) c.requires.spare)
    c.requires.kind.from c.remember.ensures.owners c.remember.ensures.next_owner c.remember.ensures.next_serial

pub returns-clause-balances : goal.returns-clause-balances
returns-clause-balances g c =
    balances_extended c.self.inside.owners c.self.inside.tables _ _ _ _ c.commons.inside.kinds c.open.new.self c.args.owner.number c.args.kind c.args.key c.self.invariant
    (subst (λ (t : ResourceState). 1 ≤ spare_of c.args.owner.number t) (sym c.self.view_is) c.requires.spare)
    (sym (ap owners_of c.self.view_is)) (sym (ap (λ (z : CommonState). z.kinds) c.commons.view_is)) refl c.requires.kind
    c.remember.ensures.owners c.in_default.ensures.ok c.open.ensures.table c.in_default.ensures.times (ap (λ (z : CommonState). z.pins) c.commons.view_is)
    (locks_moved (state_of c.self.inside.owners c.self.inside.tables.files c.self.inside.locks c.self.inside.tables.snapshots.stack c.self.inside.tables.plans) _ _ (record { kinds = c.commons.inside.kinds; locks = c.commons.inside.locks; pins = c.commons.inside.pins }) _ _ c.self.view_is c.commons.view_is (LocksBalance-nothing c.self.inside.locks c.commons.inside.locks))

pub returns-clause-serves : goal.returns-clause-serves
returns-clause-serves g c = serves_still _ _ _ _ c.requires.serves (returns-clause-balances g c)

pub returns-clause-acted : goal.returns-clause-acted
returns-clause-acted g c = grind (arith, state_of c.self.inside.owners c.self.inside.tables.files c.self.inside.locks c.self.inside.tables.snapshots.stack c.self.inside.tables.plans, state_of c.remember.new.self c.self.inside.tables.files c.self.inside.locks c.self.inside.tables.snapshots.stack c.self.inside.tables.plans, acted_extension c.args.owner.number c.args.kind c.args.key, c.self.view_is, c.commons.view_is, c.requires.kind.from, c.remember.ensures.owners, c.remember.ensures.next_owner, c.remember.ensures.next_serial, c.in_default.ensures.ok, c.remember.ensures.emits)
