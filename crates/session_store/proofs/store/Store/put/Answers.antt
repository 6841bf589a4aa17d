-- What the tree did is what the session's rules say.
use Rattle.session_store.proofs.Words.{rules, ◌≡◌, length, subst, written, put_refusal, error_of, StoreState, session_of}
use Rattle.session_store.proofs.Lemmas.{goes_put, agrees_in, alone_after, change_after, placed_after, same_after}
use Rattle.session_store.proofs.store.Store.put.Goals as goal

pub put-requires : goal.put-requires
put-requires g c = record { agrees = agrees_in _ _ _ _ _ c.self.view_is c.args.space.now c.requires.keeps }

pub invariant_of-self : goal.invariant_of-self
invariant_of-self g c =
    placed_after _ _ _ _ _ c.self.view_is _ _ _ c.requires.stands.0 c.requires.stands.1.0 c.requires.stands.1.1 c.self.invariant (goes_put _ _ _ _ c.put.ensures.moves c.put.ensures.stays)

pub returns : goal.returns
unfolding session_of
returns g c = record {
  answer = subst (λ (a : StoreState). error_of c.put.result ≡ put_refusal c.args.chunk.now c.args.at (length c.args.bytes.now) (session_of a c.args.space.now).contexts) c.self.view_is c.put.ensures.answer;
  acted =
      change_after _ _ _ _ _ c.self.view_is _ _ _ c.put.result (written c.args.chunk.now c.args.at c.args.bytes.now) c.put.ensures.contexts c.put.ensures.stays c.put.ensures.moves.limit;
  alone = λ commons. alone_after _ _ _ _ _ c.self.view_is _ _ _ commons c.requires.keeps (goes_put _ _ _ _ c.put.ensures.moves c.put.ensures.stays);
  asked = search rules;
  refused = same_after _ _ _ _ _ c.self.view_is _ _ _ c.put.result c.put.ensures.err c.put.ensures.err_space;
  err_space = search rules;
}
