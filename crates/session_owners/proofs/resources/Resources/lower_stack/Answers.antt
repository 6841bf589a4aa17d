use Rattle.session_owners.proofs.Base.{arith, ap, refl}
use Rattle.session_owners.proofs.Words.{owners_of}
use Rattle.session_owners.proofs.Lemmas.{acted_lowered, state_of, balances_same, locks_stay}
use Rattle.session_owners.proofs.resources.Resources.lower_stack.Goals as goal

pub returns-clause-acted : goal.returns-clause-acted
returns-clause-acted c = grind (arith, acted_lowered c.args.level c.args.self.now (state_of c.self.inside.owners c.lower_stack.new.self.files c.self.inside.locks c.lower_stack.new.self.snapshots.stack c.lower_stack.new.self.plans), state_of c.self.inside.owners c.lower_stack.new.self.files c.self.inside.locks c.lower_stack.new.self.snapshots.stack c.lower_stack.new.self.plans, state_of c.self.inside.owners, c.lower_stack.ensures, c.self.view_is)

pub returns-clause-balances : goal.returns-clause-balances
returns-clause-balances c =
    λ commons. balances_same _ _ commons (ap owners_of c.self.view_is)
    (locks_stay (state_of c.self.inside.owners c.self.inside.tables.files c.self.inside.locks c.self.inside.tables.snapshots.stack c.self.inside.tables.plans) _ _ commons.locks c.self.view_is refl)
