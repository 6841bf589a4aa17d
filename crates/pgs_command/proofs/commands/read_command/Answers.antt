use Rattle.std.proofs.Common.{IfSome, subst, sym}
use Rattle.std.specs.Option.{option_copied}
use Rattle.pgs_command.specs.Words.{words_in, words_of}
use Rattle.pgs_command.specs.Ranges.{IsInRange}
use Rattle.pgs_command.proofs.RangeLemmas.{command_of-in_range}
use Rattle.pgs_command.proofs.TableLemmas.{command_of-table}
use Rattle.pgs_command.proofs.commands.read_command.Goals as goal

pub returns-clause-value : goal.returns-clause-value
returns-clause-value c =
    command_of-table c.args.text.now c.split_word.result.0.now (words_in (option_copied c.split_word.result.1)) _ c.split_word.ensures c.read_listed.ensures

pub returns-clause-in_range : goal.returns-clause-in_range
returns-clause-in_range c = subst (λ o. IfSome o IsInRange) (sym (returns-clause-value c)) (command_of-in_range (words_of c.args.text.now))
