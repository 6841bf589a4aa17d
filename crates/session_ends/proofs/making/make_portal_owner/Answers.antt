-- The new owner is below the deepest level's, and the portal has it.
use Rattle.session_ends.proofs.Base.{◌∙◌, ap, sym, subst, option_map}
use Rattle.session_ends.proofs.Words.{OwnerId, level_owner, OfPortal, new_owner_made, StoreState, session_of, Acted, keeps_in, stands_in}
use Rattle.session_ends.proofs.Lemmas.{keeps_open, owner_acted, owner_placed}
use Rattle.session_ends.proofs.making.make_portal_owner.Goals as goal

pub invariant_of-store : goal.invariant_of-store
invariant_of-store g c =
    let a : StoreState = record { tree = c.store.inside.tree; owners = c.store.inside.owners; levels = c.store.inside.levels; portals = c.store.inside.portals } in
    owner_placed a c.make_owner.new.self c.set_owner.new.self c.args.name.now c.in-Ok.owner c.requires.stands.0 c.requires.stands.1.0 c.requires.stands.1.1.0 (stands_in _ _ _ _ _ c.store.view_is _ _ c.requires.stands.1.1.0 c.requires.stands.1.1.1) c.store.invariant
    c.in-Ok.ensures.stays c.make_owner.ensures.plans c.in-Ok.ensures.live c.set_owner.ensures.portals

pub returns-in-Ok-clause-acted : goal.returns-in-Ok-clause-acted
returns-in-Ok-clause-acted g c s x commons =
    let a : StoreState = record { tree = c.store.inside.tree; owners = c.store.inside.owners; levels = c.store.inside.levels; portals = c.store.inside.portals } in
    subst (λ (v : StoreState). Acted (new_owner_made (OfPortal c.args.name.now)) v (record { tree = a.tree; owners = c.make_owner.new.self; levels = a.levels; portals = c.set_owner.new.self }) s s x x commons commons (λ events. g.E.Emit.emits c.args.out.now events c.make_owner.new.out)) c.store.view_is
    (owner_acted a c.make_owner.new.self c.set_owner.new.self c.args.name.now c.in-Ok.owner (option_map (λ (p : OwnerId). p.number) c.level_owner-parent.result) s x commons (λ events. g.E.Emit.emits c.args.out.now events c.make_owner.new.out) c.set_owner.ensures.distinct
    (c.level_owner-parent.ensures.owner s ∙ ap (λ (v : StoreState). level_owner (session_of v s)) (sym c.store.view_is))
    c.in-Ok.ensures.number (c.in-Ok.ensures.acted commons) (c.make_owner.ensures.balances commons) c.set_owner.ensures.portals)

pub returns-in-Ok-clause-keeps : goal.returns-in-Ok-clause-keeps
returns-in-Ok-clause-keeps g c s keeps =
    keeps_open (record { tree = c.store.inside.tree; owners = c.store.inside.owners; levels = c.store.inside.levels; portals = c.store.inside.portals }) c.make_owner.new.self c.set_owner.new.self s
    (keeps_in _ _ _ _ _ c.store.view_is s keeps)
