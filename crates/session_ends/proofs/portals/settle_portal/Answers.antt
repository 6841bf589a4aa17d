use Rattle.session_ends.proofs.Base.{sym, subst}
use Rattle.session_ends.proofs.Words.{portal_state, Acted, portal_after, LevelEnd}
use Rattle.session_ends.proofs.portals.settle_portal.Goals as goal

pub returns-in-Merges-clause-acted : goal.returns-in-Merges-clause-acted
returns-in-Merges-clause-acted g c m =
    subst (λ (end : LevelEnd). Acted (portal_after end c.args.level (portal_state c.args.portal)) c.args.store.now c.pass_portal.new.store c.args.space.now c.args.space.now c.args.shelf.now c.args.shelf.now m m (λ events. g.E.Emit.emits c.args.out.now events c.pass_portal.new.out)) (sym c.in-Merges.is)
    (c.pass_portal.ensures.acted c.args.space.now c.args.shelf.now m)

pub returns-in-Aborts-clause-acted : goal.returns-in-Aborts-clause-acted
returns-in-Aborts-clause-acted g c m =
    subst (λ (end : LevelEnd). Acted (portal_after end c.args.level (portal_state c.args.portal)) c.args.store.now c.abort_portal.new.store c.args.space.now c.abort_portal.new.space c.args.shelf.now c.abort_portal.new.shelf m m (λ events. g.E.Emit.emits c.args.out.now events c.abort_portal.new.out)) (sym c.in-Aborts.is)
    (c.abort_portal.ensures.acted m)

pub returns-in-Goes-clause-acted : goal.returns-in-Goes-clause-acted
returns-in-Goes-clause-acted g c m =
    subst (λ (end : LevelEnd). Acted (portal_after end c.args.level (portal_state c.args.portal)) c.args.store.now c.sweep_portal.new.store c.args.space.now c.sweep_portal.new.space c.args.shelf.now c.sweep_portal.new.shelf m m (λ events. g.E.Emit.emits c.args.out.now events c.sweep_portal.new.out)) (sym c.in-Goes.is)
    (c.sweep_portal.ensures.acted m)
