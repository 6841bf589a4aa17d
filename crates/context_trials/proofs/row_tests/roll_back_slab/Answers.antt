use Rattle.context_trials.specs.Standing.{contexts_of}
use Rattle.context_trials.proofs.Rows.{apart_level}
use Rattle.context_trials.proofs.row_tests.roll_back_slab.Goals as goal

pub roll_back-requires-clause-apart : goal.roll_back-requires-clause-apart
roll_back-requires-clause-apart c = apart_level c.own_name-s.result c.args.trial.now.tree.next (contexts_of c.args.trial.now) (contexts_of c.create.new.self) (record { begins = c.requires.contexts; number = c.requires.next; named = c.own_name-s.ensures; made = c.in_ok-create.ensures.contexts })
