use Rattle.portal_commands.proofs.Words.{ScanStep, now}
use Rattle.portal_commands.proofs.Lemmas.{at_on, bad_performed, fetching_on, needs_nothing, other_performed, serves_as, serves_beside}
use Rattle.portal_commands.proofs.turns.serve.Goals as goal

pub returns-in-Pin-clause-performed : goal.returns-in-Pin-clause-performed
returns-in-Pin-clause-performed g c = serves_as c.args.portal.now.name c.args.step (ScanStep.Pin c.in-Pin.page) _ _ _ _ c.in-Pin.is c.pin_page.ensures.performed

pub returns-in-Pin-clause-place : goal.returns-in-Pin-clause-place
returns-in-Pin-clause-place g c =
    at_on c.args.portal.now.name c.args.portal.now.place c.requires.fetching.0 _ _ (now c.args.store.now c.args.shared.now) _ _ _ c.requires.fetching.1 (returns-in-Pin-clause-performed g c) (serves_beside c.args.portal.now.name c.args.step c.requires.page) c.requires.place

pub returns-in-Pin-clause-fetching : goal.returns-in-Pin-clause-fetching
returns-in-Pin-clause-fetching g c scan h =
    fetching_on c.args.portal.now.name scan _ _ (now c.args.store.now c.args.shared.now) _ _ _ h (returns-in-Pin-clause-performed g c) (serves_beside c.args.portal.now.name c.args.step c.requires.page)

pub returns-in-Bad-clause-performed : goal.returns-in-Bad-clause-performed
returns-in-Bad-clause-performed g c = serves_as c.args.portal.now.name c.args.step (ScanStep.Bad c.in-Bad.row) _ _ _ _ c.in-Bad.is (bad_performed c.args.portal.now.name c.in-Bad.row _ _ c.requires.fetching.1.between.keeps (g.met.E.Emit.emits_none c.args.out.now))

pub returns-in-Alloc-clause-performed : goal.returns-in-Alloc-clause-performed
returns-in-Alloc-clause-performed g c = serves_as c.args.portal.now.name c.args.step ScanStep.Alloc _ _ _ _ c.in-Alloc.is c.take_row.ensures.performed

pub returns-in-Alloc-clause-place : goal.returns-in-Alloc-clause-place
returns-in-Alloc-clause-place g c =
    at_on c.args.portal.now.name c.args.portal.now.place c.requires.fetching.0 _ _ (now c.args.store.now c.args.shared.now) _ _ _ c.requires.fetching.1 (returns-in-Alloc-clause-performed g c) (serves_beside c.args.portal.now.name c.args.step c.requires.page) c.requires.place

pub returns-in-Alloc-clause-fetching : goal.returns-in-Alloc-clause-fetching
returns-in-Alloc-clause-fetching g c scan h =
    fetching_on c.args.portal.now.name scan _ _ (now c.args.store.now c.args.shared.now) _ _ _ h (returns-in-Alloc-clause-performed g c) (serves_beside c.args.portal.now.name c.args.step c.requires.page)

pub returns-in_default : goal.returns-in_default
returns-in_default g c = record {
  performed = other_performed c.args.portal.now.name c.args.step _ _ (needs_nothing c.args.step c.in_default.not-Pin c.in_default.not-Bad c.in_default.not-Alloc) c.requires.fetching.1.between.keeps (g.met.E.Emit.emits_none c.args.out.now);
  fetching = λ scan h. h;
  place = c.requires.place;
}
