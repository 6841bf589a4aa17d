use Rattle.std.proofs.Common.{◌++◌, ap, sym, ◌∙◌}
use Rattle.pgs_text.proofs.DigitLemmas.{decimal_pair}
use Rattle.pgs_text.proofs.pieces.put_up_to_two.Goals as goal

pub returns-else-n-lt10-clause-text : goal.returns-else-n-lt10-clause-text
returns-else-n-lt10-clause-text g c = c.put_pair.ensures.text ∙ ap (λ z. c.args.out.now.items ++ z) (sym (decimal_pair c.args.n c.if-n-lt10.false c.requires.1))
