use Rattle.portal_store.proofs.Base.{◌≡◌, List, length, map, sym, subst, ap, ◌∙◌, length-map}
use Rattle.portal_store.proofs.Words.{Portal, IsKept, knows, to_parent}
use Rattle.portal_store.proofs.Lemmas.{IsKept_to_parent}
use Rattle.portal_store.proofs.portals.Portals.to_parent.Goals as goal

pub invariant_of-self : goal.invariant_of-self
invariant_of-self c =
    let written : c.to_parent.new.portals ≡ map (to_parent c.args.level) c.self.inside.portals.items = c.to_parent.ensures ∙ ap (map (to_parent c.args.level)) c.make_contiguous.ensures.value in
    subst (λ (ps : List Portal). IsKept ps (knows c.self.inside.places) c.self.inside.reach.levels.items)
    (sym (c.make_contiguous.ensures.writes_back c.to_parent.new.portals (ap length written ∙ length-map c.self.inside.portals.items (to_parent c.args.level) ∙ sym c.self.inside.portals.ok.0)))
    (IsKept_to_parent (knows c.self.inside.places) c.self.inside.reach.levels.items c.args.level c.self.inside.portals.items c.to_parent.new.portals c.self.invariant written)
