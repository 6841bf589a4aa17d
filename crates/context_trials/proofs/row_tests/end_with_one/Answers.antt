use Rattle.context_trials.specs.Standing.{contexts_of}
use Rattle.context_trials.proofs.Rows.{apart_top, goes_last, stands_top}
use Rattle.context_trials.proofs.row_tests.end_with_one.Goals as goal

pub roll_back-requires-clause-apart : goal.roll_back-requires-clause-apart
roll_back-requires-clause-apart c = apart_top c.own_name-w.result c.args.trial.now.tree.next (contexts_of c.args.trial.now) (contexts_of c.create.new.self) (record { begins = c.requires.contexts; number = c.requires.next; named = c.own_name-w.ensures; made = c.in_ok-create.ensures.contexts })

pub exit-requires-clause-there : goal.exit-requires-clause-there
exit-requires-clause-there c = stands_top c.own_name-w.result c.args.trial.now.tree.next (contexts_of c.args.trial.now) (contexts_of c.create.new.self) (contexts_of c.roll_back.new.self) (record { begins = c.requires.contexts; number = c.requires.next; named = c.own_name-w.ensures; made = c.in_ok-create.ensures.contexts }) c.in_ok-roll_back.ensures.contexts

pub exit-requires-clause-last : goal.exit-requires-clause-last
exit-requires-clause-last c = goes_last c.own_name-w.result c.args.trial.now.tree.next (contexts_of c.args.trial.now) (contexts_of c.create.new.self) (contexts_of c.roll_back.new.self) (record { begins = c.requires.contexts; number = c.requires.next; named = c.own_name-w.ensures; made = c.in_ok-create.ensures.contexts }) c.in_ok-roll_back.ensures.contexts
