use Rattle.session_core.proofs.Words.{elements, row_of, StoreState, portals_of, most_work, where_done, work_levels, work_stands}
use Rattle.session_core.proofs.Lemmas.{seen_from}
use Rattle.session_core.proofs.session.Session.work.Goals as goal

pub returns-clause-performed : goal.returns-clause-performed
returns-clause-performed g c =
    seen_from c.self.inside.store c.args.self.now c.self.view_is most_work (λ (store : StoreState). elements (row_of c.args.work.now (portals_of store.portals))) c.args.shared.now _ _ _ c.do_work.ensures.performed

pub returns-clause-between : goal.returns-clause-between
returns-clause-between g c = work_stands most_work c.args.work.now _ _ _ _ _ c.requires.between c.requires.active c.requires.rest (returns-clause-performed g c)

pub returns-clause-levels : goal.returns-clause-levels
returns-clause-levels g c = where_done c.do_work.result (work_levels most_work c.args.work.now _ _ _ _ _ c.requires.between c.requires.active c.requires.rest (returns-clause-performed g c))
