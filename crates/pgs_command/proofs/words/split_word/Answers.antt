use Rattle.std.proofs.Common.{arith}
use Rattle.pgs_command.proofs.WordLemmas.{words_of-first, words_of-last}
use Rattle.pgs_command.proofs.words.split_word.Goals as goal

pub returns-then-word-text : goal.returns-then-word-text
returns-then-word-text c = words_of-first c.args.text.now _ _ c.next_token.ensures.word c.next_token.ensures.behind (omega arith)

pub returns-else-word-text : goal.returns-else-word-text
returns-else-word-text c = words_of-last c.args.text.now _ c.next_token.ensures.word c.next_token.ensures.no_space (omega arith)
