use Rattle.context_trials.proofs.Standing.{stands_hooked}
use Rattle.context_trials.proofs.trial.Trial.hook.Goals as goal

pub returns-in_default-register-clause-stands : goal.returns-in_default-register-clause-stands
returns-in_default-register-clause-stands c =
    stands_hooked c.args.self.now c.register.new.self c.take.new.self c.requires (c.register.ensures.moves c.args.self.now.space c.requires.sits.agrees) c.register.ensures.stays c.take.ensures.words_differ

pub returns-clause-stands : goal.returns-clause-stands
returns-clause-stands c =
    stands_hooked c.args.self.now c.register.new.self c.take.new.self c.requires (c.register.ensures.moves c.args.self.now.space c.requires.sits.agrees) c.register.ensures.stays c.take.ensures.words_differ
