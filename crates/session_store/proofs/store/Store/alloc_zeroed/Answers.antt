-- What the tree did is what the session's rules say.
use Rattle.session_store.proofs.Words.{rules, ◌≡◌, ◌⊎◌, ℕ, true, None, Some, IfErr, OnOk, sym, subst, Asks, asked, Contexts, alloc_refusal, Memory, CtxId, IsLive}
use Rattle.session_store.proofs.Lemmas.{goes_put, agrees_in, alone_after, left_through, placed_after, same_after, taken_after, there_in}
use Rattle.session_store.proofs.store.Store.alloc_zeroed.Goals as goal

pub alloc0-requires : goal.alloc0-requires
alloc0-requires g c = record {
  agrees = agrees_in _ _ _ _ _ c.self.view_is c.args.space.now c.requires.keeps;
  live =
      let there = there_in _ _ _ _ _ c.self.view_is c.args.space.now c.requires.stands.0 c.requires.stands.1.0 c.requires.stands.1.1 in
      subst (λ (id : CtxId). IsLive c.self.inside.tree id) (sym c.current-at.ensures) (c.self.invariant.current there.current);
}

pub invariant_of-self : goal.invariant_of-self
invariant_of-self g c =
    placed_after _ _ _ _ _ c.self.view_is _ _ _ c.requires.stands.0 c.requires.stands.1.0 c.requires.stands.1.1 c.self.invariant (goes_put _ _ _ _ c.alloc0.ensures.moves c.alloc0.ensures.stays)

pub returns : goal.returns
returns g c = record {
  acted =
      taken_after _ _ _ _ _ c.self.view_is _ _ _ c.alloc0.result c.args.chunk c.args.size true c.current-at.result c.current-at.ensures c.requires.keeps c.alloc0.ensures.contexts c.alloc0.ensures.stays c.alloc0.ensures.moves.limit;
  alone = λ commons. alone_after _ _ _ _ _ c.self.view_is _ _ _ commons c.requires.keeps (goes_put _ _ _ _ c.alloc0.ensures.moves c.alloc0.ensures.stays);
  asked =
      left_through _ _ _ _ _ c.self.view_is (λ (account n left : ℕ) (contexts : Contexts). OnOk c.alloc0.result (Asks account (asked n left c.args.size contexts) c.args.space.now c.alloc0.new.space)) c.args.space.now c.current-at.result c.current-at.ensures c.requires.keeps
      c.alloc0.ensures.asked;
  served =
      left_through _ _ _ _ _ c.self.view_is (λ (account n left : ℕ) (contexts : Contexts). OnOk c.alloc0.result (alloc_refusal n left c.args.chunk c.args.size contexts ≡ None)) c.args.space.now c.current-at.result c.current-at.ensures c.requires.keeps
      c.alloc0.ensures.served;
  cause =
      left_through _ _ _ _ _ c.self.view_is (λ (account n left : ℕ) (contexts : Contexts). IfErr c.alloc0.result (λ e. (e ≡ Memory) ⊎ (alloc_refusal n left c.args.chunk c.args.size contexts ≡ Some e))) c.args.space.now c.current-at.result c.current-at.ensures c.requires.keeps
      c.alloc0.ensures.refused;
  refused = same_after _ _ _ _ _ c.self.view_is _ _ _ c.alloc0.result c.alloc0.ensures.err c.alloc0.ensures.err_space;
  err_space = search rules;
}
