use Rattle.session_owners.proofs.Base.{arith, nat_tests, ap, refl, sym, option_map}
use Rattle.session_owners.proofs.Words.{owners_of, owner_made}
use Rattle.session_owners.proofs.Lemmas.{counted_made, acted_made, state_of, balances_made, locks_stay, three_ok}
use Rattle.session_owners.proofs.resources.Resources.make_owner.Goals as goal

pub invariant_of-self : goal.invariant_of-self
invariant_of-self g c =
    counted_made c.self.inside.owners _ _ (option_map (λ p. p.number) c.args.parent) c.create.result c.self.invariant
    c.create.ensures.owners c.create.ensures.next_owner c.create.ensures.next_serial c.create.ensures.too_many c.create.ensures.refused

pub returns-clause-balances : goal.returns-clause-balances
returns-clause-balances g c =
    λ commons. balances_made c.self.inside.owners c.create.new.self _ _ commons (option_map (λ p. p.number) c.args.parent) c.create.result (sym (ap owners_of c.self.view_is)) refl c.create.ensures.owners c.create.ensures.refused
    (locks_stay (state_of c.self.inside.owners c.self.inside.tables.files c.self.inside.locks c.self.inside.tables.snapshots.stack c.self.inside.tables.plans) _ _ commons.locks c.self.view_is refl)

pub returns-clause-acted : goal.returns-clause-acted
returns-clause-acted g c = grind (arith, nat_tests, c.self.inside.owners, c.self.inside.tables.files, c.self.inside.locks, c.self.inside.tables.snapshots.stack, c.self.inside.tables.plans, g.E.Emit.emits, three_ok, c.create.ensures.owners, c.create.ensures.next_owner, c.create.ensures.emits, owner_made, acted_made, c.create.ensures.next_serial)
