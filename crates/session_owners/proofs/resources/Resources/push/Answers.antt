use Rattle.session_owners.proofs.Base.{List, [], ◌∷◌, ◌++◌, ap, refl, ◌∙◌}
use Rattle.session_owners.proofs.Words.{What, ResourceState, owners_of, Held}
use Rattle.session_owners.proofs.Lemmas.{acted_pushed, state_of, balances_same, locks_stay, both_ok}
use Rattle.session_owners.proofs.resources.Resources.push.Goals as goal

pub returns-clause-acted : goal.returns-clause-acted
returns-clause-acted g c =
    both_ok c.push.result c.push.ensures.pushed c.push.ensures.emitted
    (λ is said commons. acted_pushed c.args.level c.args.snapshot c.args.self.now (state_of c.self.inside.owners c.push.new.self.files c.self.inside.locks c.push.new.self.snapshots.stack c.push.new.self.plans) commons (λ (events : List What). g.E.Emit.emits c.args.out.now events c.push.new.out)
    (ap (λ (h : Held). state_of c.self.inside.owners h.files c.self.inside.locks h.snapshots.stack h.plans) is
    ∙ ap (λ (r : ResourceState). record r { stack = r.stack ++ record { snapshot = c.args.snapshot; level = c.args.level } ∷ [] }) c.self.view_is) said)

pub returns-clause-balances : goal.returns-clause-balances
returns-clause-balances g c =
    λ commons. balances_same _ _ commons (ap owners_of c.self.view_is)
    (locks_stay (state_of c.self.inside.owners c.self.inside.tables.files c.self.inside.locks c.self.inside.tables.snapshots.stack c.self.inside.tables.plans) _ _ commons.locks c.self.view_is refl)
