use Rattle.portal_store.proofs.Base.{List, ap, refl, sym, subst, ◌∙◌, is_some, not}
use Rattle.portal_store.proofs.Words.{Portal, IsKept, knows, new_portal, portal_named}
use Rattle.portal_store.proofs.Lemmas.{IsKept_created, IsKept_same, in_front, not_in_front}
use Rattle.portal_store.proofs.portals.Portals.create.Goals as goal

pub invariant_of-self : goal.invariant_of-self
invariant_of-self c = IsKept_same (knows c.self.inside.places) (knows c.make_room.new.self) c.self.inside.portals.items c.self.inside.reach.levels.items c.self.inside.reach.levels.items c.make_room.ensures.names refl c.self.invariant

pub invariant_of-self-then-is_err-2 : goal.invariant_of-self-then-is_err-2
invariant_of-self-then-is_err-2 c = IsKept_same (knows c.self.inside.places) (knows c.make_room.new.self) c.self.inside.portals.items c.self.inside.reach.levels.items c.make_room-2.new.self.levels.items c.make_room.ensures.names c.make_room-2.ensures.levels c.self.invariant

pub invariant_of-self-then-is_err-3 : goal.invariant_of-self-then-is_err-3
invariant_of-self-then-is_err-3 c =
    subst (λ (ps : List Portal). IsKept ps (knows c.make_room.new.self) c.make_room-2.new.self.levels.items)
    (sym (not_in_front c.self.inside.portals.items c.push_front.new.self.items (new_portal c.args.name c.args.scan c.args.level) _ c.push_front.ensures.items (c.is_err-3.ensures.negation ∙ ap not c.if-is_err-3.true)))
    (IsKept_same (knows c.self.inside.places) (knows c.make_room.new.self) c.self.inside.portals.items c.self.inside.reach.levels.items c.make_room-2.new.self.levels.items c.make_room.ensures.names c.make_room-2.ensures.levels c.self.invariant)

pub invariant_of-self-2 : goal.invariant_of-self-2
invariant_of-self-2 c =
    let deep = c.enter-2.ensures in
    IsKept_created (knows c.make_room.new.self) (knows c.enter.new.self) c.self.inside.portals.items c.push_front.new.self.items (new_portal c.args.name c.args.scan c.args.level) c.make_room-2.new.self.levels.items c.enter-2.new.self.levels.items deep.0
    (in_front c.self.inside.portals.items c.push_front.new.self.items (new_portal c.args.name c.args.scan c.args.level) _ c.push_front.ensures.items (c.is_err-3.ensures.negation ∙ ap not c.if-is_err-3.false))
    (ap (λ portals. is_some (portal_named c.args.name portals)) c.self.view_is ∙ sym c.is_live.ensures ∙ c.if-is_live.false) (λ full. c.if-len-eq-MAX_PORTALS.false (c.len.ensures ∙ c.self.inside.portals.ok.0 ∙ full))
    c.enter.ensures.entered c.enter.ensures.others deep.1 deep.1 deep.2 deep.3
    (IsKept_same (knows c.self.inside.places) (knows c.make_room.new.self) c.self.inside.portals.items c.self.inside.reach.levels.items c.make_room-2.new.self.levels.items c.make_room.ensures.names c.make_room-2.ensures.levels c.self.invariant)
