use Rattle.portal_commands.proofs.Base.{refl}
use Rattle.portal_commands.proofs.Words.{taken, OpenPortal, now}
use Rattle.portal_commands.proofs.Lemmas.{at_follows, fetching_follows, fetching_step, scan_done, step_named, at_becomes}
use Rattle.portal_commands.proofs.turns.take_step.Goals as goal

pub step_at-step-requires : goal.step_at-step-requires
step_at-step-requires g c = record { there = (c.args.portal.now.name, c.requires.place) }

pub follow-requires : goal.follow-requires
follow-requires g c = record {
  fetching = (
    _,
    fetching_step c.args.portal.now.name c.requires.fetching.0 (now c.args.store.now c.args.shared.now) c.step_at-step.new.store c.step_at-step.result c.requires.fetching.1
        (c.step_at-step.ensures.acted c.args.portal.now.name c.requires.place c.args.shared.now.space.now c.args.shared.now.shelf.now c.args.shared.now.commons.now) c.step_at-step.ensures.alone,
  );
  place = at_becomes c.args.portal.now.name c.args.portal.now.place (λ s (old : OpenPortal). record old { scan = taken c.step_at-step.result old.scan }) (now c.args.store.now c.args.shared.now) c.step_at-step.new.store (λ s p. refl)
      (c.step_at-step.ensures.acted c.args.portal.now.name c.requires.place c.args.shared.now.space.now c.args.shared.now.shelf.now c.args.shared.now.commons.now) c.requires.place;
}

pub returns-clause-performed : goal.returns-clause-performed
returns-clause-performed g c =
    scan_done c.args.portal.now.name c.requires.fetching.0 c.step_at-step.result (now c.args.store.now c.args.shared.now) _ c.step_at-step.new.store _ c.requires.fetching.1
    (c.step_at-step.ensures.acted c.args.portal.now.name c.requires.place c.args.shared.now.space.now c.args.shared.now.shelf.now c.args.shared.now.commons.now) c.step_at-step.ensures.alone c.follow.ensures.follows

pub returns-clause-fetching : goal.returns-clause-fetching
returns-clause-fetching g c scan h =
    fetching_follows c.args.portal.now.name _ c.step_at-step.result _ _ _
    (fetching_step c.args.portal.now.name scan (now c.args.store.now c.args.shared.now) c.step_at-step.new.store c.step_at-step.result h
    (c.step_at-step.ensures.acted c.args.portal.now.name c.requires.place c.args.shared.now.space.now c.args.shared.now.shelf.now c.args.shared.now.commons.now) c.step_at-step.ensures.alone) c.follow.ensures.follows

pub returns-clause-place : goal.returns-clause-place
returns-clause-place g c =
    at_follows c.args.portal.now.name c.args.portal.now.place _ c.step_at-step.result _ _ _
    (fetching_step c.args.portal.now.name c.requires.fetching.0 (now c.args.store.now c.args.shared.now) c.step_at-step.new.store c.step_at-step.result c.requires.fetching.1
    (c.step_at-step.ensures.acted c.args.portal.now.name c.requires.place c.args.shared.now.space.now c.args.shared.now.shelf.now c.args.shared.now.commons.now) c.step_at-step.ensures.alone) c.follow.ensures.follows
    (at_becomes c.args.portal.now.name c.args.portal.now.place (λ s (old : OpenPortal). record old { scan = taken c.step_at-step.result old.scan }) (now c.args.store.now c.args.shared.now) c.step_at-step.new.store (λ s p. refl)
    (c.step_at-step.ensures.acted c.args.portal.now.name c.requires.place c.args.shared.now.space.now c.args.shared.now.shelf.now c.args.shared.now.commons.now) c.requires.place)

pub returns-clause-step : goal.returns-clause-step
returns-clause-step g c scan h = step_named c.args.portal.now.name c.args.begins scan (now c.args.store.now c.args.shared.now) c.step_at-step.result h (c.step_at-step.ensures.step c.args.portal.now.name c.requires.place)
