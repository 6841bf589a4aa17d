use Rattle.session_ends.proofs.Base.{◌∙◌, ap, sym}
use Rattle.session_ends.proofs.Words.{has, has_of_removed, stands_for, has_kept}
use Rattle.session_ends.proofs.parts.drop_context.Goals as goal

pub returns-in-Some-clause-stays : goal.returns-in-Some-clause-stays
returns-in-Some-clause-stays g c n still =
    c.gone.ensures.did.stays n (ap (has n) (sym c.gone.ensures.did.contexts) ∙ has_kept n c.gone.new.self c.gone.new.space ∙ still)

pub returns-in-Some-clause-had : goal.returns-in-Some-clause-had
returns-in-Some-clause-had g c n still =
    sym (has_kept n c.args.tree.now c.args.space.now)
    ∙ has_of_removed n c.in-Some.context.number (stands_for c.args.tree.now c.args.space.now)
    (ap (has n) (sym c.gone.ensures.did.contexts) ∙ has_kept n c.gone.new.self c.gone.new.space ∙ still)
