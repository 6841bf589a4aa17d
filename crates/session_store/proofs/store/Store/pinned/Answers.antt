-- The owners answer at each scene of the store.
use Rattle.session_store.proofs.Words.{◌≡◌, sym, subst, pinning, Serves, StoreState, scene_of}
use Rattle.session_store.proofs.Lemmas.{owners_fit}
use Rattle.session_store.proofs.store.Store.pinned.Goals as goal

pub pinned-requires-clause-serves : goal.pinned-requires-clause-serves
pinned-requires-clause-serves g c = subst (λ (v : StoreState). Serves v.owners c.args.commons.now) (sym c.self.view_is) c.requires.serves

pub returns : goal.returns
returns g c s x around =
    let a : StoreState = record { tree = c.self.inside.tree; owners = c.self.inside.owners; levels = c.self.inside.levels; portals = c.self.inside.portals } in
    subst (λ (v : StoreState). c.pinned.result ≡ pinning c.args.buffer (scene_of v s x c.args.commons.now around)) c.self.view_is
    (c.pinned.ensures (scene_of a s x c.args.commons.now around) (owners_fit a s x c.args.commons.now around))
