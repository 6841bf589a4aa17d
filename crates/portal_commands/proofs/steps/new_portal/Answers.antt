use Rattle.portal_commands.proofs.Base.{None, Err, refl, ap, ◌∙◌}
use Rattle.portal_commands.proofs.Words.{now, call_done, call_injected, call_refused, call_wants, handed}
use Rattle.portal_commands.proofs.Lemmas.{keeps_alone, none_named, few_portals, make_portal, many_portals, making_begins}
use Rattle.portal_commands.proofs.steps.new_portal.Goals as goal

pub returns-in_err-next-clause-performed : goal.returns-in_err-next-clause-performed
returns-in_err-next-clause-performed g c =
    handed _ _ c.from_residual.ensures.1
    (call_injected (make_portal c.args.name c.args.object c.args.rows c.args.bad) _ _ _ c.next.ensures.counted refl c.requires.between.keeps refl refl refl _ c.in_err-next.ensures.injected)

pub returns-in-Ok-clause-performed : goal.returns-in-Ok-clause-performed
returns-in-Ok-clause-performed g c =
    let space = c.args.shared.now.space.now in
    call_done (make_portal c.args.name c.args.object c.args.rows c.args.bad) _ _ _ c.next.ensures.counted refl c.requires.between.keeps c.in_ok-next.ensures.goes
    (few_portals (now c.args.store.now c.args.shared.now) c.make_portal.result c.make_portal.ensures.too_many _ c.in-Ok.is c.make_portal.ensures.at_most) c.make_portal.ensures.alone.tree (keeps_alone _ _ space c.make_portal.ensures.alone c.requires.between.keeps)
    (c.in-Ok.ensures.acted space c.args.shared.now.shelf.now c.args.shared.now.commons.now)

pub returns-in-Ok-clause-making : goal.returns-in-Ok-clause-making
returns-in-Ok-clause-making g c =
    making_begins c.args.name c.args.object c.args.rows c.args.bad (now c.args.store.now c.args.shared.now) _ _ None (returns-in-Ok-clause-performed g c) c.requires.between c.requires.active
    (none_named c.args.name _ c.requires.new) refl

pub returns-in-Err-TooMany-clause-performed : goal.returns-in-Err-TooMany-clause-performed
returns-in-Err-TooMany-clause-performed g c =
    call_refused (make_portal c.args.name c.args.object c.args.rows c.args.bad) _ _ _ c.next.ensures.counted refl c.requires.between.keeps refl refl c.in-Err-TooMany.ensures.refused _ c.in_ok-next.ensures.goes refl
    (many_portals (now c.args.store.now c.args.shared.now) c.make_portal.result c.make_portal.ensures.too_many (c.in-Err-TooMany.is ∙ ap Err c.in-Err-TooMany.field-0-is))

pub returns-in-Err-clause-performed : goal.returns-in-Err-clause-performed
returns-in-Err-clause-performed g c =
    call_wants (make_portal c.args.name c.args.object c.args.rows c.args.bad) _ _ _ c.next.ensures.counted refl c.requires.between.keeps refl refl c.in-Err.ensures.refused c.in_ok-next.ensures.goes
