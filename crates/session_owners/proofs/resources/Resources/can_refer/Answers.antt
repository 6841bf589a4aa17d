use Rattle.session_owners.proofs.Base.{nat_tests, arith, nat_eq, lookup}
use Rattle.session_owners.proofs.Lemmas.{at_found, usable_state}
use Rattle.session_owners.proofs.resources.Resources.can_refer.Goals as goal

pub returns-clause-standing : goal.returns-clause-standing
returns-clause-standing c = grind (arith, nat_tests, usable_state c.args.plan (lookup (nat_eq c.args.plan) c.self.inside.tables.plans.standing), at_found c.args.plan c.self.inside.tables.plans.standing, c.can_refer.ensures, c.self.view_is)
