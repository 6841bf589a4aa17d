use Rattle.std.proofs.Common.{◌++◌, ap, sym, ◌∙◌, arith}
use Rattle.pgs_text.proofs.DigitLemmas.{decimal_pair, hundreds_told}
use Rattle.pgs_text.proofs.pieces.put_small.Goals as goal

pub returns-then-n-lt100-clause-text : goal.returns-then-n-lt100-clause-text
returns-then-n-lt100-clause-text g c = c.put_pair.ensures.text ∙ ap (λ z. c.args.out.now.items ++ z) (sym (decimal_pair c.args.n c.if-n-lt10.false c.if-n-lt100.true))

pub returns-else-n-lt100-clause-text : goal.returns-else-n-lt100-clause-text
returns-else-n-lt100-clause-text g c =
    hundreds_told c.args.n c.args.out.now.items _ _ c.if-n-lt100.false (omega (arith, c.ranges.n)) c.put_digit-else-n-lt100.ensures.text c.put_pair-else-n-lt100.ensures.text
