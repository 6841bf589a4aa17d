use Rattle.session_owners.proofs.Base.{arith, ap, refl}
use Rattle.session_owners.proofs.Words.{owners_of}
use Rattle.session_owners.proofs.Lemmas.{acted_popped_from, state_of, balances_same, locks_stay}
use Rattle.session_owners.proofs.resources.Resources.pop_from.Goals as goal

pub returns-clause-acted : goal.returns-clause-acted
returns-clause-acted g c = grind (arith, acted_popped_from c.args.level c.args.self.now (state_of c.self.inside.owners c.pop_from.new.self.files c.self.inside.locks c.pop_from.new.self.snapshots.stack c.pop_from.new.self.plans), state_of c.self.inside.owners c.pop_from.new.self.files c.self.inside.locks c.pop_from.new.self.snapshots.stack c.pop_from.new.self.plans, state_of c.self.inside.owners, c.pop_from.ensures.kept, c.self.view_is, c.pop_from.ensures.emitted)

pub returns-clause-balances : goal.returns-clause-balances
returns-clause-balances g c =
    λ commons. balances_same _ _ commons (ap owners_of c.self.view_is)
    (locks_stay (state_of c.self.inside.owners c.self.inside.tables.files c.self.inside.locks c.self.inside.tables.snapshots.stack c.self.inside.tables.plans) _ _ commons.locks c.self.view_is refl)
