use Rattle.portal_commands.proofs.Words.{PortalCommand, portal_row, portals_of, as_row}
use Rattle.portal_commands.proofs.works.work_on_portals.Goals as goal

pub returns-in-Open : goal.returns-in-Open
returns-in-Open g c = record { performed = as_row (λ (x : PortalCommand). portal_row x (portals_of c.args.store.now.portals)) _ _ c.in-Open.is c.make_portal.ensures.performed }

pub returns-in-Fetch : goal.returns-in-Fetch
returns-in-Fetch g c = record { performed = as_row (λ (x : PortalCommand). portal_row x (portals_of c.args.store.now.portals)) _ _ c.in-Fetch.is c.fetch.ensures.performed }

pub returns-in-End : goal.returns-in-End
returns-in-End g c = record { performed = as_row (λ (x : PortalCommand). portal_row x (portals_of c.args.store.now.portals)) _ _ c.in-End.is c.end_portal.ensures.performed }
