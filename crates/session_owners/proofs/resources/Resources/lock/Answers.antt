use Rattle.session_owners.proofs.Base.{arith, nat_tests, ap}
use Rattle.session_owners.proofs.Words.{acquired, CommonState, ResourceState}
use Rattle.session_owners.proofs.Lemmas.{acted_locked, both_ok, conflict_seen, locks_alone}
use Rattle.session_owners.proofs.resources.Resources.lock.Goals as goal

pub returns-clause-conflict : goal.returns-clause-conflict
returns-clause-conflict g c =
    conflict_seen c.self.inside.locks.session c.commons.inside.locks c.args.self.now c.args.commons.now c.args.object c.args.mode _
    (ap (λ (r : ResourceState). r.session) c.self.view_is) (ap (λ (s : CommonState). s.locks) c.commons.view_is) c.acquire.ensures.conflict

pub returns-clause-acted : goal.returns-clause-acted
returns-clause-acted g c = grind (arith, nat_tests, both_ok, c.acquire.ensures.ok, c.acquire.ensures.events, acted_locked, g.E.Emit.emits, locks_alone, c.acquire.ensures.others, acquired)
