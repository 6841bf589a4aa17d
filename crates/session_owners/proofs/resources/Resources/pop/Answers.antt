use Rattle.session_owners.proofs.Base.{nat_tests, arith, List, ap, refl, sym, ◌∙◌}
use Rattle.session_owners.proofs.Words.{What, ResourceState, owners_of, Held}
use Rattle.session_owners.proofs.Lemmas.{acted_popped, state_of, balances_same, locks_stay, both_ok, pop_refused}
use Rattle.session_owners.proofs.resources.Resources.pop.Goals as goal

pub returns-clause-not_held : goal.returns-clause-not_held
returns-clause-not_held g c = grind (arith, nat_tests, pop_refused c.self.inside.tables.snapshots.stack c.args.level c.pop.result c.pop.ensures.held, c.self.view_is, c.pop.ensures.held)

pub returns-clause-acted : goal.returns-clause-acted
returns-clause-acted g c =
    both_ok c.pop.result c.pop.ensures.popped c.pop.ensures.popped
    (λ popped again commons. acted_popped (record { snapshot = popped.0; level = c.args.level }) c.args.self.now (state_of c.self.inside.owners c.pop.new.self.files c.self.inside.locks c.pop.new.self.snapshots.stack c.pop.new.self.plans) commons
    (λ (events : List What). g.E.Emit.emits c.args.out.now events c.pop.new.out)
    (sym (ap (λ (r : ResourceState). r.stack) c.self.view_is) ∙ popped.1)
    (ap (λ (h : Held). state_of c.self.inside.owners h.files c.self.inside.locks c.pop.new.self.snapshots.stack h.plans) c.pop.ensures.alone
    ∙ ap (λ (r : ResourceState). record r { stack = c.pop.new.self.snapshots.stack }) c.self.view_is) popped.2)

pub returns-clause-balances : goal.returns-clause-balances
returns-clause-balances g c =
    λ commons. balances_same _ _ commons (ap owners_of c.self.view_is)
    (locks_stay (state_of c.self.inside.owners c.self.inside.tables.files c.self.inside.locks c.self.inside.tables.snapshots.stack c.self.inside.tables.plans) _ _ commons.locks c.self.view_is refl)
