use Rattle.std.proofs.Common.{◌∙◌, arith}
use Rattle.pgs_command.specs.Values.{number_of}
use Rattle.pgs_command.proofs.WordLemmas.{only-text}
use Rattle.pgs_command.proofs.ValueLemmas.{number_between-space}
use Rattle.pgs_command.proofs.words.Words.only_number.Goals as goal

pub returns-in-Some : goal.returns-in-Some
returns-in-Some c =
    let text = c.in-Some.text.now in
    c.read_number.ensures.read ∙ rw (← c.self.view_is) (rw c.in-Some.is (only-text number_of text (number_between-space 0 4294967295 text (omega arith))))
