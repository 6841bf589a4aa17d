-- What the owners count, in as many contexts as the tree has, is what the session counts.
use Rattle.session_store.proofs.Words.{◌≡◌, [], sym, subst, counts, CommonState, StoreState, scene_of, session_of}
use Rattle.session_store.proofs.Lemmas.{nowhere, owners_fit}
use Rattle.session_store.proofs.store.Store.counts.Goals as goal

pub returns : goal.returns
unfolding session_of
returns g c s =
    let a : StoreState = record { tree = c.self.inside.tree; owners = c.self.inside.owners; levels = c.self.inside.levels; portals = c.self.inside.portals } in
    let none : CommonState = record { kinds = []; locks = []; pins = [] } in
    subst (λ (v : StoreState). c.counts.result ≡ counts (session_of v s)) c.self.view_is
    (c.counts.ensures none (scene_of a s nowhere.shelf none nowhere) (owners_fit a s nowhere.shelf none nowhere) (sym (c.count.ensures.value s)))
