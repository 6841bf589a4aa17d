-- The kind of the name has a key more, or nothing changed.
use Rattle.session_commands.proofs.Base.{◌≡◌, Some, sym, ap, ◌∙◌, subst}
use Rattle.session_commands.proofs.Words.{has, table_of, IsExtension, CommonState, has_begun, serves_still, OfLevel, kind_named, now}
use Rattle.session_commands.proofs.Lemmas.{acquired, no_kind, no_room_named, owner_there, owner_unbegun, owners_same, room_left, handed}
use Rattle.session_commands.proofs.extensions.acquire.Goals as goal

pub returns-in_default : goal.returns-in_default
returns-in_default g c = record { performed = no_kind c.args.name.now _ _ _ (sym c.in_default.ensures.kind) c.requires.between.keeps (g.met.E.Emit.emits_none c.args.out.now) }

pub returns-in_err-enlarge : goal.returns-in_err-enlarge
returns-in_err-enlarge g c = record {
  performed =
      handed _ _ c.from_residual.ensures.1
      (no_room_named c.args.name.now c.in-Some.kind c.args.key _ (sym c.in-Some.ensures.kind) c.requires.between.keeps _ _ (g.met.E.Emit.emits_none c.args.out.now) _ (c.in_err-enlarge.ensures.performed OfLevel));
}

pub returns : goal.returns
returns g c = record {
  performed =
      let found : kind_named c.args.name.now c.enlarge.new.shared.commons.now.kinds ≡ Some c.in-Some.kind = ap (λ (m : CommonState). kind_named c.args.name.now m.kinds) c.enlarge.ensures.commons ∙ sym c.in-Some.ensures.kind in
      acquired c.args.name.now c.in-Some.kind c.args.key _ (sym c.in-Some.ensures.kind) c.requires.between.keeps _ _ _ _ (c.in_ok-enlarge.ensures.performed OfLevel)
      (c.take_extension.ensures.performed c.args.name.now found);
}

pub enlarge-requires-clause-not_begun : goal.enlarge-requires-clause-not_begun
enlarge-requires-clause-not_begun g c = owner_unbegun (now c.args.store.now c.args.shared.now) c.requires.between c.requires.active c.owner_of_level-owner.result.number

pub take_extension-requires-clause-not_begun : goal.take_extension-requires-clause-not_begun
take_extension-requires-clause-not_begun g c =
    ap (has_begun c.owner_of_level-owner.result.number) (owners_same c.args.store.now c.enlarge.new.store c.args.shared.now.space.now (c.in_ok-enlarge.ensures.session c.args.shared.now.space.now))
    ∙ owner_unbegun (now c.args.store.now c.args.shared.now) c.requires.between c.requires.active c.owner_of_level-owner.result.number

pub take_extension-requires-clause-live : goal.take_extension-requires-clause-live
take_extension-requires-clause-live g c =
    c.in_ok-enlarge.ensures.alone.stays c.owner_of_level-owner.result (c.owner_of_level-owner.ensures.live c.args.shared.now.space.now c.args.shared.now.shelf.now c.args.shared.now.commons.now c.requires.between.stands)
    (ap (has c.owner_of_level-owner.result.number) (owners_same c.args.store.now c.enlarge.new.store c.args.shared.now.space.now (c.in_ok-enlarge.ensures.session c.args.shared.now.space.now))
    ∙ owner_there (now c.args.store.now c.args.shared.now) c.requires.between c.requires.active c.owner_of_level-owner.result.number (c.owner_of_level-owner.ensures.owner c.args.shared.now.space.now))

pub take_extension-requires-clause-serves : goal.take_extension-requires-clause-serves
take_extension-requires-clause-serves g c = serves_still _ _ _ _ c.requires.between.serves c.in_ok-enlarge.ensures.alone.balances

pub take_extension-requires-clause-kind : goal.take_extension-requires-clause-kind
take_extension-requires-clause-kind g c = subst (λ (m : CommonState). IsExtension (table_of m.kinds) c.in-Some.kind) (sym c.enlarge.ensures.commons) c.in-Some.ensures.extension

pub take_extension-requires-clause-keeps : goal.take_extension-requires-clause-keeps
take_extension-requires-clause-keeps g c = (c.in_ok-enlarge.ensures.performed OfLevel).keeps

pub take_extension-requires-clause-room : goal.take_extension-requires-clause-room
take_extension-requires-clause-room g c = room_left 1 1 (now c.args.store.now c.args.shared.now) _ c.requires.room (c.in_ok-enlarge.ensures.performed OfLevel).grows
