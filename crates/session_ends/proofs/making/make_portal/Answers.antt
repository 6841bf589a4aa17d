-- The new portal is the deepest level's.
use Rattle.session_ends.proofs.Base.{◌∷◌, ap, ◌∙◌}
use Rattle.session_ends.proofs.Words.{Scan, new_portal, on_answer}
use Rattle.session_ends.proofs.Lemmas.{made_after}
use Rattle.session_ends.proofs.making.make_portal.Goals as goal

pub returns-clause-acted : goal.returns-clause-acted
returns-clause-acted g c =
    on_answer c.create.result
    (λ made s x commons.
    made_after _ _ _ _ _ c.store.view_is c.create.new.self c.args.name c.args.object c.args.rows c.args.bad c.depth-level.result s x commons c.depth-level.ensures.depth
    (made ∙ ap (λ (scan : Scan). new_portal c.args.name scan c.depth-level.result ∷ c.store.inside.portals) c.new.ensures.made))
    c.create.ensures.created
