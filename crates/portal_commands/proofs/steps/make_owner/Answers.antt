use Rattle.portal_commands.proofs.Base.{None, Err, true, false, refl, ap, ◌∙◌}
use Rattle.portal_commands.proofs.Words.{call_done, call_injected, call_refused, call_wants, said_nothing, now, OfPortal, few_owners, make_owner, many_owners, handed}
use Rattle.portal_commands.proofs.Lemmas.{has_name, owner_on}
use Rattle.portal_commands.proofs.steps.make_owner.Goals as goal

pub returns-in_err-next-clause-performed : goal.returns-in_err-next-clause-performed
returns-in_err-next-clause-performed g c =
    handed _ _ c.from_residual.ensures.1
    (call_injected (make_owner (OfPortal c.args.name.now)) _ _ _ c.next.ensures.counted refl c.requires.making.between.keeps refl (g.met.E.Emit.emits_none c.args.out.now) refl _ c.in_err-next.ensures.injected)

pub returns-in-Ok-clause-performed : goal.returns-in-Ok-clause-performed
returns-in-Ok-clause-performed g c =
    let space = c.args.shared.now.space.now in
    call_done (make_owner (OfPortal c.args.name.now)) _ _ _ c.next.ensures.counted refl c.requires.making.between.keeps c.in_ok-next.ensures.goes
    (few_owners (now c.args.store.now c.args.shared.now) c.make_portal_owner.result c.make_portal_owner.ensures.too_many _ c.in-Ok.is)
    c.make_portal_owner.ensures.tree (c.make_portal_owner.ensures.keeps space c.requires.making.between.keeps) (c.in-Ok.ensures.acted space c.args.shared.now.shelf.now c.args.shared.now.commons.now)

pub returns-in-Ok-clause-making : goal.returns-in-Ok-clause-making
returns-in-Ok-clause-making g c = owner_on c.args.name.now (now c.args.store.now c.args.shared.now) _ _ None (returns-in-Ok-clause-performed g c) c.requires.making refl

pub returns-in-Err-TooMany-clause-performed : goal.returns-in-Err-TooMany-clause-performed
returns-in-Err-TooMany-clause-performed g c =
    call_refused (make_owner (OfPortal c.args.name.now)) _ _ _ c.next.ensures.counted refl c.requires.making.between.keeps refl
    (said_nothing g.E.Emit.emits c.args.out.now c.make_portal_owner.new.out (g.met.E.Emit.emits_none c.args.out.now) c.in-Err-TooMany.ensures.silent) c.in-Err-TooMany.ensures.err _ c.in_ok-next.ensures.goes refl
    (many_owners (now c.args.store.now c.args.shared.now) c.make_portal_owner.result c.make_portal_owner.ensures.too_many (c.in-Err-TooMany.is ∙ ap Err c.in-Err-TooMany.field-0-is))

pub returns-in-Err-clause-performed : goal.returns-in-Err-clause-performed
returns-in-Err-clause-performed g c =
    call_wants (make_owner (OfPortal c.args.name.now)) _ _ _ c.next.ensures.counted refl c.requires.making.between.keeps refl
    (said_nothing g.E.Emit.emits c.args.out.now c.make_portal_owner.new.out (g.met.E.Emit.emits_none c.args.out.now) c.in-Err.ensures.silent) c.in-Err.ensures.err c.in_ok-next.ensures.goes

pub make_portal_owner-requires-clause-stands : goal.make_portal_owner-requires-clause-stands
make_portal_owner-requires-clause-stands g c = (c.args.shared.now.space.now, (c.args.shared.now.shelf.now, (c.args.shared.now.commons.now, c.requires.making.between.stands)))

pub make_portal_owner-requires-clause-there : goal.make_portal_owner-requires-clause-there
make_portal_owner-requires-clause-there g c = has_name _ c.args.shared.now.space.now c.args.name.now true false false c.requires.making.way
