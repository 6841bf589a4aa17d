use Rattle.session_owners.proofs.Base.{arith, nat_tests}
use Rattle.session_owners.proofs.Words.{given_back}
use Rattle.session_owners.proofs.Lemmas.{acted_unlocked, both_ok, locks_alone}
use Rattle.session_owners.proofs.resources.Resources.unlock.Goals as goal

pub returns-clause-acted : goal.returns-clause-acted
returns-clause-acted g c = grind (arith, nat_tests, both_ok, c.release.ensures.ok, c.release.ensures.events, acted_unlocked, g.E.Emit.emits, locks_alone, c.release.ensures.others, given_back)
