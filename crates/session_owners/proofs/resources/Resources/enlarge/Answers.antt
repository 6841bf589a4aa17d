use Rattle.session_owners.proofs.Base.{ap, refl, ◌∙◌}
use Rattle.session_owners.proofs.Words.{owners_of}
use Rattle.session_owners.proofs.Lemmas.{state_of, balances_same, locks_stay}
use Rattle.session_owners.proofs.resources.Resources.enlarge.Goals as goal

pub returns-clause-balances : goal.returns-clause-balances
returns-clause-balances c =
    λ commons. balances_same _ _ commons (c.enlarge.ensures.owners ∙ ap owners_of c.self.view_is)
    (locks_stay (state_of c.self.inside.owners c.self.inside.tables.files c.self.inside.locks c.self.inside.tables.snapshots.stack c.self.inside.tables.plans) _ _ commons.locks c.self.view_is refl)
