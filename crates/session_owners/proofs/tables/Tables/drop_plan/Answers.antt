use Rattle.session_owners.proofs.Base.{ap, subst}
use Rattle.session_owners.proofs.Words.{Plans, AreLeft, Held}
use Rattle.session_owners.proofs.tables.Tables.drop_plan.Goals as goal

pub returns-clause-left : goal.returns-clause-left
returns-clause-left g c = subst (λ (p : Plans). AreLeft p.standing c.discard.new.plans.standing) (ap (λ (h : Held). h.plans) c.self.view_is) c.discard.ensures.left
