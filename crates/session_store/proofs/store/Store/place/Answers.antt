-- Where the tree has the chunk.
use Rattle.session_store.proofs.Words.{◌+◌, ◌≤◌, length, IfSome, IsSome, refl, sym, subst, HasBytes, found, written, contexts_become, StoreState, session_of, Acted, ContextsAlone, IsSilent}
use Rattle.session_store.proofs.Lemmas.{alone_on, change_acted, agrees_in, keeps_in}
use Rattle.session_store.proofs.store.Store.place.Goals as goal

pub place-requires : goal.place-requires
unfolding session_of
place-requires g c = (c.requires.0, subst (λ (a : StoreState). IsSome (found c.args.chunk.now (session_of a c.requires.0).contexts)) (sym c.self.view_is) c.requires.1)

pub returns : goal.returns
unfolding session_of
returns g c = record {
  known = λ s keeps.
      subst (λ (a : StoreState). IfSome (found c.args.chunk.now (session_of a s).contexts) (λ f. HasBytes s c.place.result f.chunk.known)) c.self.view_is
      (c.place.ensures.known s (agrees_in _ _ _ _ _ c.self.view_is s keeps));
  alone = λ s t offset bytes keeps within changes commons.
      let is = c.place.ensures.written s t offset bytes (agrees_in _ _ _ _ _ c.self.view_is s keeps)
      (subst (λ (a : StoreState). IfSome (found c.args.chunk.now (session_of a s).contexts) (λ f. offset + length bytes ≤ length f.chunk.known)) (sym c.self.view_is) within) changes in
      subst (λ (a : StoreState). ContextsAlone a a s t commons commons) c.self.view_is
      (alone_on (record { tree = c.self.inside.tree; owners = c.self.inside.owners; levels = c.self.inside.levels; portals = c.self.inside.portals }) c.self.inside.tree s t commons (keeps_in _ _ _ _ _ c.self.view_is s keeps)
      (record { moves = is.1; stays = λ n was now. refl; current = refl }));
  written = λ s t offset bytes keeps within changes x commons.
      let is = c.place.ensures.written s t offset bytes (agrees_in _ _ _ _ _ c.self.view_is s keeps)
      (subst (λ (a : StoreState). IfSome (found c.args.chunk.now (session_of a s).contexts) (λ f. offset + length bytes ≤ length f.chunk.known)) (sym c.self.view_is) within) changes in
      subst (λ (a : StoreState). Acted (contexts_become (written c.args.chunk.now offset bytes)) a a s t x x commons commons IsSilent) c.self.view_is
      (change_acted (record { tree = c.self.inside.tree; owners = c.self.inside.owners; levels = c.self.inside.levels; portals = c.self.inside.portals }) c.self.inside.tree s t is.1.limit (written c.args.chunk.now offset bytes) is.0 (record { places = refl; current = refl; next = refl }) x commons);
}
