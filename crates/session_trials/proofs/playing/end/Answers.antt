use Rattle.session_core.proofs.BetweenLines.{steps_of_lines}
use Rattle.session_trials.proofs.playing.end.Goals as goal

pub exit-requires : goal.exit-requires
exit-requires c = record { between = steps_of_lines _ c.requires.lines }
