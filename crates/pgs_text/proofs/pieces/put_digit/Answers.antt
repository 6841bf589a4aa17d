use Rattle.std.proofs.Common.{◌++◌, ap, sym, ◌∙◌}
use Rattle.std.proofs.lemmas.Fmt.{decimal_digit}
use Rattle.pgs_text.proofs.pieces.put_digit.Goals as goal

pub returns-clause-text : goal.returns-clause-text
returns-clause-text g c = c.push.ensures.items ∙ ap (λ z. c.args.out.now.items ++ z) (sym (decimal_digit c.args.n c.requires.1))
