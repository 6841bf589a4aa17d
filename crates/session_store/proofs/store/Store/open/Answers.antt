-- A session that opens.
use Rattle.session_store.proofs.Opened.{keeps_opened, opens, stands_opened}
use Rattle.session_store.proofs.store.Store.open.Goals as goal

pub returns-in-Ok-new-clause-session : goal.returns-in-Ok-new-clause-session
returns-in-Ok-new-clause-session g c =
    opens c.in-Ok-new.tree c.in-Ok.owners c.new-in-Ok-new.result c.new-in-Ok-new-2.result c.new-2.new.space c.args.session c.args.descriptors c.in-Ok-new.ensures.contexts c.in-Ok-new.ensures.current.0 c.in-Ok-new.ensures.next c.in-Ok.ensures.begins c.new-in-Ok-new.ensures c.new-in-Ok-new-2.ensures

pub returns-in-Ok-new-clause-stands : goal.returns-in-Ok-new-clause-stands
returns-in-Ok-new-clause-stands g c x commons differ sound =
    stands_opened (record { tree = c.in-Ok-new.tree; owners = c.in-Ok.owners; levels = c.new-in-Ok-new.result; portals = c.new-in-Ok-new-2.result }) c.new-2.new.space x commons
    (opens c.in-Ok-new.tree c.in-Ok.owners c.new-in-Ok-new.result c.new-in-Ok-new-2.result c.new-2.new.space c.args.session c.args.descriptors c.in-Ok-new.ensures.contexts c.in-Ok-new.ensures.current.0 c.in-Ok-new.ensures.next c.in-Ok.ensures.begins c.new-in-Ok-new.ensures c.new-in-Ok-new-2.ensures)
    differ sound

pub returns-in-Ok-new-clause-keeps : goal.returns-in-Ok-new-clause-keeps
returns-in-Ok-new-clause-keeps g c none =
    keeps_opened (record { tree = c.in-Ok-new.tree; owners = c.in-Ok.owners; levels = c.new-in-Ok-new.result; portals = c.new-in-Ok-new-2.result }) c.args.account c.args.space.now c.new-2.new.space c.in-Ok-new.ensures.moves c.in-Ok-new.ensures.account none
