use Rattle.pgs_text.proofs.TextLemmas.{behind}
use Rattle.pgs_text.proofs.report_texts.put_grand_total.Goals as goal

pub returns-clause-text : goal.returns-clause-text
returns-clause-text g c = behind _ _ _ _ _ c.put_word.ensures.text c.put_counters.ensures.text
