use Rattle.std.proofs.Common.{refl}
use Rattle.pgs_step.specs.declared.events.What.TheVariants.{Create}
use Rattle.pgs_step.specs.Text.{text_of, what_text}
use Rattle.pgs_text.proofs.TextLemmas.{line_told}
use Rattle.pgs_text.proofs.texts.append_create.Goals as goal

pub returns-then-has_room-clause-text : goal.returns-then-has_room-clause-text
unfolding text_of what_text
returns-then-has_room-clause-text g c = λ names.
    line_told c.args.session (what_text names (Create c.args.context c.args.name.now c.args.parent)) c.args.out.now.items _ _ _ _ refl
    c.put_small.ensures.text c.push.ensures.items c.put_create.ensures.text c.put_newline.ensures.text
