-- The law of the store's tree, told of the store.
use Rattle.session_store.proofs.Beside.{beside_of, stays_beside}
use Rattle.session_store.proofs.store.Store.beside.Goals as goal

pub returns : goal.returns
returns g c = beside_of _ _ c.self.view_is (stays_beside _ c.beside.ensures.agrees c.beside.ensures.contexts)
