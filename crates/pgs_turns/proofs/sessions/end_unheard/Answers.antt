use Rattle.pgs_turns.proofs.Lemmas.{opened_leave, opened_leave_kinds}
use Rattle.pgs_turns.proofs.sessions.end_unheard.Goals as goal

pub returns-clause-shelf : goal.returns-clause-shelf
returns-clause-shelf g c = opened_leave _ _ _ c.requires.standing.alike.0 c.requires.standing.alike.1 c.requires.opening c.exit_all.ensures.exits

pub returns-clause-kinds : goal.returns-clause-kinds
returns-clause-kinds g c = opened_leave_kinds _ _ _ c.requires.standing.alike.0 c.requires.standing.alike.1 c.requires.opening c.exit_all.ensures.exits

pub returns-clause-given_back : goal.returns-clause-given_back
returns-clause-given_back g c = c.exit_all.ensures.exits.given_back

pub returns-clause-others : goal.returns-clause-others
returns-clause-others g c = c.exit_all.ensures.exits.same.others

pub returns-clause-accounts : goal.returns-clause-accounts
returns-clause-accounts g c = c.exit_all.ensures.exits.same.accounts
