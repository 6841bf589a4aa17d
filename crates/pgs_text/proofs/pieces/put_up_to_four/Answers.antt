use Rattle.std.proofs.Common.{arith}
use Rattle.pgs_text.proofs.DigitLemmas.{hundreds_told}
use Rattle.pgs_text.proofs.pieces.put_up_to_four.Goals as goal

pub returns-else-n-lt100-clause-text : goal.returns-else-n-lt100-clause-text
returns-else-n-lt100-clause-text g c =
    hundreds_told c.args.n c.args.out.now.items _ _ c.if-n-lt100.false (omega (arith, c.requires.1)) c.put_up_to_two-else-n-lt100.ensures.text c.put_pair.ensures.text
