use Rattle.session_owners.proofs.Base.{nat_tests, arith, nat_eq, lookup}
use Rattle.session_owners.proofs.Lemmas.{at_found, some_state}
use Rattle.session_owners.proofs.resources.Resources.has_plan.Goals as goal

pub returns-clause-standing : goal.returns-clause-standing
returns-clause-standing c = grind (arith, nat_tests, some_state c.args.plan (lookup (nat_eq c.args.plan) c.self.inside.tables.plans.standing), at_found c.args.plan c.self.inside.tables.plans.standing, c.has_plan.ensures, c.self.view_is)
