use Rattle.pgs_text.proofs.DigitLemmas.{pair_told}
use Rattle.pgs_text.proofs.pieces.put_pair.Goals as goal

pub returns-clause-text : goal.returns-clause-text
returns-clause-text g c = pair_told c.args.n c.args.out.now.items _ _ c.requires.1 c.push.ensures.items c.push-2.ensures.items
