use Rattle.pgs_world.proofs.Words.{setting_for}
use Rattle.pgs_world.proofs.Lemmas.{run_is_lawful, run_makes_once}
use Rattle.pgs_world.proofs.program.start.Goals as goal

pub returns-clause-lawful : goal.returns-clause-lawful
returns-clause-lawful g c =
    λ _. run_is_lawful (setting_for c.args.options.now c.args.shelf.now c.args.kinds.now) c.requires.hooks c.names.ensures.sound

pub returns-clause-made_once : goal.returns-clause-made_once
returns-clause-made_once g c =
    λ _. run_makes_once (setting_for c.args.options.now c.args.shelf.now c.args.kinds.now) c.requires.hooks c.names.ensures.sound
