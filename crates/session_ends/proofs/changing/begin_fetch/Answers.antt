-- The portal is active in the deepest level.
use Rattle.session_ends.proofs.Base.{length, ap, ◌∙◌, ℕ}
use Rattle.session_ends.proofs.Words.{Portal, changed, place_within, StoreState}
use Rattle.session_ends.proofs.Lemmas.{active_after, place_in, placed_changed, portals_alone_after}
use Rattle.session_ends.proofs.changing.begin_fetch.Goals as goal

pub set_active_at-requires : goal.set_active_at-requires
set_active_at-requires g c = place_within c.requires.there.0 c.store.inside.portals c.args.place (place_in _ _ _ _ _ c.store.view_is c.requires.there.0 c.args.place c.requires.there.1)

pub invariant_of-store : goal.invariant_of-store
invariant_of-store g c =
    placed_changed _ _ _ c.store.inside.portals c.set_active_at.new.self c.requires.there.0 (λ (p : Portal). record p { active = c.depth-level.result }) c.store.invariant
    (λ p e lies. record { context = lies.context; expr = lies.expr; owner = lies.owner; scan = lies.scan })
    (c.set_active_at.ensures.portals c.requires.there.0 (place_in _ _ _ _ _ c.store.view_is c.requires.there.0 c.args.place c.requires.there.1))

pub returns : goal.returns
returns g c = record {
  acted = λ name at s x commons. active_after _ _ _ _ _ c.store.view_is c.set_active_at.new.self name c.depth-level.result s x commons c.set_active_at.ensures.distinct c.depth-level.ensures.depth
      (c.set_active_at.ensures.portals name (place_in _ _ _ _ _ c.store.view_is name c.args.place at));
  alone = portals_alone_after _ _ _ _ _ c.store.view_is c.set_active_at.new.self;
  portals = λ name at. c.set_active_at.ensures.portals name (place_in _ _ _ _ _ c.store.view_is name c.args.place at)
      ∙ ap (λ (n : ℕ). changed name (λ (p : Portal). record p { active = n }) c.store.inside.portals) c.depth-level.ensures.depth
      ∙ ap (λ (v : StoreState). changed name (λ (p : Portal). record p { active = length v.levels }) v.portals) c.store.view_is;
}
