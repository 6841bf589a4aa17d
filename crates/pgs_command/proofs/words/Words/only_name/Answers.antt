use Rattle.std.proofs.Common.{◌∙◌}
use Rattle.pgs_command.specs.Values.{name_of}
use Rattle.pgs_command.proofs.WordLemmas.{only-text}
use Rattle.pgs_command.proofs.ValueLemmas.{name_of-space}
use Rattle.pgs_command.proofs.words.Words.only_name.Goals as goal

pub returns-in-Some : goal.returns-in-Some
returns-in-Some c =
    let text = c.in-Some.text.now in
    c.read_name.ensures ∙ rw (← c.self.view_is) (rw c.in-Some.is (only-text name_of text (name_of-space text)))
