use Rattle.std.proofs.Common.{◌∙◌}
use Rattle.pgs_command.specs.Values.{mode_of}
use Rattle.pgs_command.proofs.WordLemmas.{only-text}
use Rattle.pgs_command.proofs.ValueLemmas.{mode_of-space}
use Rattle.pgs_command.proofs.words.Words.only_mode.Goals as goal

pub returns-in-Some : goal.returns-in-Some
returns-in-Some c =
    let text = c.in-Some.text.now in
    c.read_mode.ensures ∙ rw (← c.self.view_is) (rw c.in-Some.is (only-text mode_of text (mode_of-space text)))
