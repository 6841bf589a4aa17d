use Rattle.std.proofs.Common.{rules}
use Rattle.std.specs.Option.{option_copied}
use Rattle.pgs_command.specs.Words.{words_in}
use Rattle.pgs_command.proofs.TableLemmas.{of_no_length}
use Rattle.pgs_command.proofs.commands.read_listed.Goals as goal

pub returns-in_default : goal.returns-in_default
returns-in_default c = of_no_length c.args.word.now (words_in (option_copied c.args.rest)) (search rules)
