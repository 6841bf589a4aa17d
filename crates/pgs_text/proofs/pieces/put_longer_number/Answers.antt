use Rattle.std.proofs.Common.{arith}
use Rattle.pgs_text.proofs.DigitLemmas.{hundreds_told}
use Rattle.pgs_text.proofs.pieces.put_longer_number.Goals as goal

pub returns-then-n-lt1000000-clause-text : goal.returns-then-n-lt1000000-clause-text
returns-then-n-lt1000000-clause-text g c =
    hundreds_told c.args.n c.args.out.now.items _ _ (omega (arith, c.if-n-lt10000.false)) (omega (arith, c.if-n-lt1000000.true)) c.put_up_to_four-then-n-lt1000000.ensures.text c.put_pair.ensures.text
