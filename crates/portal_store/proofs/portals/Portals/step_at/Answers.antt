use Rattle.portal_store.proofs.Base.{◌≡◌, ◌∷◌, ap, ◌∙◌, slice_set, arith}
use Rattle.portal_store.proofs.Words.{IsScan, rest, taken, Portal, coming, knows}
use Rattle.portal_store.proofs.Lemmas.{asked_there, changed_at, told_there, IsKept_set}
use Rattle.portal_store.proofs.portals.Portals.step_at.Goals as goal

pub step-requires : goal.step-requires
step-requires c = asked_there c.self.inside.portals.items c.args.self.now c.args.place c.index_mut.result.now c.self.view_is c.requires.there c.index_mut.ensures.value (λ p. IsScan p.scan) c.requires.scan

pub invariant_of-self : goal.invariant_of-self
invariant_of-self c =
    IsKept_set (knows c.self.inside.places) c.self.inside.reach.levels.items c.self.inside.portals.items c.args.place c.index_mut.result.now c.step.new.self c.index_mut.ensures.value (ap (λ (p : Portal). p.name) c.step.ensures.portal)
    (omega (arith, ap (λ (p : Portal). p.created) c.step.ensures.portal)) (omega (arith, ap (λ (p : Portal). p.active) c.step.ensures.portal)) c.self.invariant

pub returns-clause-step : goal.returns-clause-step
returns-clause-step c =
    told_there c.self.inside.portals.items c.args.self.now c.args.place c.index_mut.result.now c.self.view_is c.requires.there c.index_mut.ensures.value
    (λ p. coming c.args.begins p.scan ≡ c.step.result ∷ rest c.step.result (taken c.step.result p.scan)) c.step.ensures.step

pub returns-clause-portals : goal.returns-clause-portals
returns-clause-portals c name at =
    ap (slice_set c.self.inside.portals.items c.args.place) c.step.ensures.portal
    ∙ changed_at name c.self.inside.portals.items c.args.self.now c.args.place c.index_mut.result.now c.self.view_is at c.index_mut.ensures.value (λ (p : Portal). record p { scan = taken c.step.result p.scan })

pub returns-clause-scan : goal.returns-clause-scan
returns-clause-scan c =
    told_there c.self.inside.portals.items c.args.self.now c.args.place c.index_mut.result.now c.self.view_is c.requires.there c.index_mut.ensures.value
    (λ p. IsScan (taken c.step.result p.scan)) c.step.ensures.scan
