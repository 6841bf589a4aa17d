-- What the tree did is what the session's rules say.
use Rattle.session_store.proofs.Words.{rules, ◌≡◌, ◌⊎◌, ℕ, None, Some, IfErr, OnOk, Asks, resized_asked, Contexts, realloc_refusal, Memory}
use Rattle.session_store.proofs.Lemmas.{goes_put, agrees_in, alone_after, held_through, placed_after, resized_after, same_after}
use Rattle.session_store.proofs.store.Store.realloc.Goals as goal

pub realloc-requires : goal.realloc-requires
realloc-requires g c = record { agrees = agrees_in _ _ _ _ _ c.self.view_is c.args.space.now c.requires.keeps }

pub invariant_of-self : goal.invariant_of-self
invariant_of-self g c =
    placed_after _ _ _ _ _ c.self.view_is _ _ _ c.requires.stands.0 c.requires.stands.1.0 c.requires.stands.1.1 c.self.invariant (goes_put _ _ _ _ c.realloc.ensures.moves c.realloc.ensures.stays)

pub returns : goal.returns
returns g c = record {
  acted =
      resized_after _ _ _ _ _ c.self.view_is _ _ _ c.realloc.result c.args.chunk.now c.args.size c.requires.keeps c.realloc.ensures.contexts c.realloc.ensures.stays c.realloc.ensures.moves.limit;
  alone = λ commons. alone_after _ _ _ _ _ c.self.view_is _ _ _ commons c.requires.keeps (goes_put _ _ _ _ c.realloc.ensures.moves c.realloc.ensures.stays);
  asked =
      held_through _ _ _ _ _ c.self.view_is (λ (account n : ℕ) (contexts : Contexts). OnOk c.realloc.result (Asks account (resized_asked n c.args.space.now.limit c.args.chunk.now c.args.size contexts) c.args.space.now c.realloc.new.space)) c.args.space.now c.requires.keeps
      c.realloc.ensures.asked;
  served =
      held_through _ _ _ _ _ c.self.view_is (λ (account n : ℕ) (contexts : Contexts). OnOk c.realloc.result (realloc_refusal n c.args.space.now.limit c.args.chunk.now c.args.size contexts ≡ None)) c.args.space.now c.requires.keeps
      c.realloc.ensures.served;
  cause =
      held_through _ _ _ _ _ c.self.view_is (λ (account n : ℕ) (contexts : Contexts). IfErr c.realloc.result (λ e. (e ≡ Memory) ⊎ (realloc_refusal n c.args.space.now.limit c.args.chunk.now c.args.size contexts ≡ Some e))) c.args.space.now c.requires.keeps
      c.realloc.ensures.refused;
  refused = same_after _ _ _ _ _ c.self.view_is _ _ _ c.realloc.result c.realloc.ensures.err c.realloc.ensures.err_space;
  err_space = search rules;
}
