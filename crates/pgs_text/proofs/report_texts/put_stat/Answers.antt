use Rattle.std.proofs.Common.{append_assoc}
use Rattle.pgs_text.proofs.report_texts.put_stat.Goals as goal

pub returns-clause-text : goal.returns-clause-text
returns-clause-text g c = simp (append_assoc, c.put_both.ensures.text, c.put_both-2.ensures.text, c.put_both-3.ensures.text, c.put_both-4.ensures.text, c.put_counted.ensures.text)
