use Rattle.std.proofs.Common.{length, ap, arith, List, ℕ}
use Rattle.pgnodes.proofs.Cuts.{parted}
use Rattle.pgnodes.proofs.lines.split_word.Goals as goal

pub returns-then-word-text-clause-some : goal.returns-then-word-text-clause-some
returns-then-word-text-clause-some c =
    let word = c.next_token.ensures.word in
    let behind = c.next_token.ensures.behind in
    (rw (word, behind) (parted c.args.text.now (omega (arith, c.if-word-text.true, ap (λ (xs : List ℕ). length xs) word))), c.next_token.ensures.no_space)
