use Rattle.session_ends.proofs.Base.{◌∙◌, ap, sym}
use Rattle.session_ends.proofs.Words.{has, stands_for, has_kept}
use Rattle.session_ends.proofs.Lemmas.{had_below}
use Rattle.session_ends.proofs.parts.clear_below.Goals as goal

pub returns-in-Some-clause-stays : goal.returns-in-Some-clause-stays
returns-in-Some-clause-stays g c n still =
    c.clear_children.ensures.did.stays n (ap (has n) (sym c.clear_children.ensures.did.contexts) ∙ has_kept n c.clear_children.new.self c.clear_children.new.space ∙ still)

pub returns-in-Some-clause-had : goal.returns-in-Some-clause-had
returns-in-Some-clause-had g c n still =
    sym (has_kept n c.args.tree.now c.args.space.now)
    ∙ had_below n c.in-Some.context.number (stands_for c.args.tree.now c.args.space.now) c.requires.once
    (ap (has n) (sym c.clear_children.ensures.did.contexts) ∙ has_kept n c.clear_children.new.self c.clear_children.new.space ∙ still)
