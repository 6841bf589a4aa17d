use Rattle.std.proofs.Common.{sym, ◌∙◌}
use Rattle.pgs_step.specs.Text.{text_of, what_text}
use Rattle.pgs_text.proofs.TextLemmas.{line_told, line_untold}
use Rattle.pgs_text.proofs.texts.append_text.Goals as goal

pub returns-then-has_text-clause-text : goal.returns-then-has_text-clause-text
unfolding text_of
returns-then-has_text-clause-text g c =
    line_told c.args.session (what_text c.args.names.now c.args.what.now) c.args.out.now.items _ _ _ _ (sym c.has_text.ensures ∙ c.if-has_text.true)
    c.put_small.ensures.text c.push.ensures.items c.put_what.ensures.text c.put_newline.ensures.text

pub returns-else-has_text-clause-text : goal.returns-else-has_text-clause-text
unfolding text_of
returns-else-has_text-clause-text g c =
    line_untold c.args.session (what_text c.args.names.now c.args.what.now) c.args.out.now.items (sym c.has_text.ensures ∙ c.if-has_text.false)
