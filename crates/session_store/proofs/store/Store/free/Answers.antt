-- What the tree did is what the session's rules say.
use Rattle.session_store.proofs.Words.{rules, ◌≡◌, subst, freed, free_refusal, error_of, StoreState, session_of}
use Rattle.session_store.proofs.Lemmas.{goes_put, agrees_in, alone_after, change_after, placed_after, same_after}
use Rattle.session_store.proofs.store.Store.free.Goals as goal

pub free-requires : goal.free-requires
free-requires g c = record { agrees = agrees_in _ _ _ _ _ c.self.view_is c.args.space.now c.requires.keeps }

pub invariant_of-self : goal.invariant_of-self
invariant_of-self g c =
    placed_after _ _ _ _ _ c.self.view_is _ _ _ c.requires.stands.0 c.requires.stands.1.0 c.requires.stands.1.1 c.self.invariant (goes_put _ _ _ _ c.free.ensures.moves c.free.ensures.stays)

pub returns : goal.returns
unfolding session_of
returns g c = record {
  answer = subst (λ (a : StoreState). error_of c.free.result ≡ free_refusal c.args.chunk.now (session_of a c.args.space.now).contexts) c.self.view_is c.free.ensures.answer;
  acted =
      change_after _ _ _ _ _ c.self.view_is _ _ _ c.free.result (freed c.args.chunk.now) c.free.ensures.contexts c.free.ensures.stays c.free.ensures.moves.limit;
  alone = λ commons. alone_after _ _ _ _ _ c.self.view_is _ _ _ commons c.requires.keeps (goes_put _ _ _ _ c.free.ensures.moves c.free.ensures.stays);
  asked = search rules;
  refused = same_after _ _ _ _ _ c.self.view_is _ _ _ c.free.result c.free.ensures.err c.free.ensures.err_space;
  err_space = search rules;
}
