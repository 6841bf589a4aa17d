-- What the tree did is what the session's rules say.
use Rattle.session_store.proofs.Words.{rules, ◌≡◌, ◌⊎◌, ℕ, false, None, Some, IfErr, OnOk, refl, Asks, asked, Contexts, alloc_refusal, Memory}
use Rattle.session_store.proofs.Lemmas.{goes_put, agrees_in, alone_after, left_through, live_in, placed_after, same_after, taken_at}
use Rattle.session_store.proofs.store.Store.alloc_at.Goals as goal

pub alloc-requires : goal.alloc-requires
alloc-requires g c = record {
  agrees = agrees_in _ _ _ _ _ c.self.view_is c.args.space.now c.requires.keeps;
  live =
      live_in _ _ _ _ _ c.self.view_is c.args.at c.requires.live;
}

pub invariant_of-self : goal.invariant_of-self
invariant_of-self g c =
    placed_after _ _ _ _ _ c.self.view_is _ _ _ c.requires.stands.0 c.requires.stands.1.0 c.requires.stands.1.1 c.self.invariant (goes_put _ _ _ _ c.alloc.ensures.moves c.alloc.ensures.stays)

pub returns : goal.returns
returns g c = record {
  acted =
      taken_at _ _ _ _ _ c.self.view_is _ _ _ c.alloc.result c.args.chunk c.args.size false c.args.at c.requires.keeps c.alloc.ensures.contexts c.alloc.ensures.stays c.alloc.ensures.moves.limit;
  alone = λ commons. alone_after _ _ _ _ _ c.self.view_is _ _ _ commons c.requires.keeps (goes_put _ _ _ _ c.alloc.ensures.moves c.alloc.ensures.stays);
  asked =
      left_through _ _ _ _ _ c.self.view_is (λ (account n left : ℕ) (contexts : Contexts). OnOk c.alloc.result (Asks account (asked c.args.at.number left c.args.size contexts) c.args.space.now c.alloc.new.space)) c.args.space.now _ refl c.requires.keeps
      c.alloc.ensures.asked;
  served =
      left_through _ _ _ _ _ c.self.view_is (λ (account n left : ℕ) (contexts : Contexts). OnOk c.alloc.result (alloc_refusal c.args.at.number left c.args.chunk c.args.size contexts ≡ None)) c.args.space.now _ refl c.requires.keeps
      c.alloc.ensures.served;
  cause =
      left_through _ _ _ _ _ c.self.view_is (λ (account n left : ℕ) (contexts : Contexts). IfErr c.alloc.result (λ e. (e ≡ Memory) ⊎ (alloc_refusal c.args.at.number left c.args.chunk c.args.size contexts ≡ Some e))) c.args.space.now _ refl c.requires.keeps
      c.alloc.ensures.refused;
  refused = same_after _ _ _ _ _ c.self.view_is _ _ _ c.alloc.result c.alloc.ensures.err c.alloc.ensures.err_space;
  err_space = search rules;
}
