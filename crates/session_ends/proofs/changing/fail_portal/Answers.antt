-- The portal's state is another one.
use Rattle.session_ends.proofs.Base.{ap, ◌∙◌, refl}
use Rattle.session_ends.proofs.Words.{Portal, Failed, changed, OpenPortal, StoreState}
use Rattle.session_ends.proofs.Lemmas.{becomes_after, placed_changed, portals_alone_after, there_in}
use Rattle.session_ends.proofs.changing.fail_portal.Goals as goal

pub set_state-requires : goal.set_state-requires
set_state-requires g c = there_in _ _ _ _ _ c.store.view_is c.args.name.now c.requires.there

pub invariant_of-store : goal.invariant_of-store
invariant_of-store g c =
    placed_changed _ _ _ c.store.inside.portals c.set_state.new.self c.args.name.now (λ (p : Portal). record p { state = Failed }) c.store.invariant
    (λ p e lies. record { context = lies.context; expr = lies.expr; owner = lies.owner; scan = lies.scan }) c.set_state.ensures.portals

pub returns : goal.returns
returns g c = record {
  acted = λ s x commons. becomes_after _ _ _ _ _ c.store.view_is c.set_state.new.self c.args.name.now (λ (p : Portal). record p { state = Failed }) (λ (p : OpenPortal). record p { state = Failed }) s x commons c.set_state.ensures.distinct (λ p. refl)
      c.set_state.ensures.portals;
  alone = portals_alone_after _ _ _ _ _ c.store.view_is c.set_state.new.self;
  portals = c.set_state.ensures.portals ∙ ap (λ (v : StoreState). changed c.args.name.now (λ (p : Portal). record p { state = Failed }) v.portals) c.store.view_is;
}
