use Rattle.session_core.proofs.Base.{[], refl}
use Rattle.session_core.proofs.Words.{Work, row_of, portals_of, most_work, as_row}
use Rattle.session_core.proofs.Lemmas.{performed_refused, work_as}
use Rattle.session_core.proofs.works.do_work.Goals as goal

pub returns-in-Raise : goal.returns-in-Raise
returns-in-Raise g c = record {
  performed = as_row (λ (w : Work). row_of w (portals_of c.args.store.now.portals)) _ _ c.in-Raise.is (performed_refused most_work _ [] _ _ c.requires.between.keeps (g.met.E.Emit.emits_none c.args.out.now) refl);
}

pub returns-in-Contexts : goal.returns-in-Contexts
returns-in-Contexts g c = record { performed = work_as _ _ _ _ _ _ _ c.in-Contexts.is c.work_on_contexts.ensures.performed }

pub returns-in-Chunks : goal.returns-in-Chunks
returns-in-Chunks g c = record { performed = work_as _ _ _ _ _ _ _ c.in-Chunks.is c.work_on_chunks.ensures.performed }

pub returns-in-Items : goal.returns-in-Items
returns-in-Items g c = record { performed = work_as _ _ _ _ _ _ _ c.in-Items.is c.work_on_items.ensures.performed }

pub returns-in-Locks : goal.returns-in-Locks
returns-in-Locks g c = record { performed = work_as _ _ _ _ _ _ _ c.in-Locks.is c.work_on_locks.ensures.performed }

pub returns-in-Snapshots : goal.returns-in-Snapshots
returns-in-Snapshots g c = record { performed = work_as _ _ _ _ _ _ _ c.in-Snapshots.is c.work_on_snapshots.ensures.performed }

pub returns-in-Plans : goal.returns-in-Plans
returns-in-Plans g c = record { performed = work_as _ _ _ _ _ _ _ c.in-Plans.is c.work_on_plans.ensures.performed }

pub returns-in-Portals : goal.returns-in-Portals
returns-in-Portals g c = record {
  performed = as_row (λ (w : Work). row_of w (portals_of c.args.store.now.portals)) _ _ c.in-Portals.is c.work_on_portals.ensures.performed;
}

pub returns-in-Tells : goal.returns-in-Tells
returns-in-Tells g c = record { performed = work_as _ _ _ _ _ _ _ c.in-Tells.is c.tell.ensures.performed }
