-- What the tree did is what the session's rules say.
use Rattle.session_store.proofs.Words.{rules, ◌≡◌, subst, cleared_alone, reset_only_refusal, error_of, stands_for, StoreState, session_of}
use Rattle.session_store.proofs.Lemmas.{acted_after, agrees_in, alone_after, asked_after, goes_after, hooks_in, live_in, placed_after, refused_after}
use Rattle.session_store.proofs.store.Store.reset_only.Goals as goal

pub reset_only-requires : goal.reset_only-requires
reset_only-requires g c = record {
  agrees = agrees_in _ _ _ _ _ c.self.view_is c.args.space.now c.requires.keeps;
  live = live_in _ _ _ _ _ c.self.view_is c.args.at c.requires.live;
  hooks = hooks_in _ _ _ _ _ c.self.view_is c.args.space.now c.args.shelf.now c.requires.stands.0 c.requires.stands.1;
}

pub invariant_of-self : goal.invariant_of-self
invariant_of-self g c =
    let n = c.args.at.number in
    placed_after _ _ _ _ _ c.self.view_is _ _ _ c.args.shelf.now c.requires.stands.0 c.requires.stands.1 c.self.invariant
    (goes_after _ _ _ _ _ c.self.view_is _ _ _ _ _ c.reset_only.result (cleared_alone n (stands_for c.self.inside.tree c.args.space.now)) c.requires.keeps c.reset_only.ensures.did c.reset_only.ensures.err)

pub returns : goal.returns
unfolding session_of
returns g c = record {
  answer = subst (λ (a : StoreState). error_of c.reset_only.result ≡ reset_only_refusal c.args.at.number (session_of a c.args.space.now).contexts) c.self.view_is c.reset_only.ensures.answer;
  acted =
      acted_after _ _ _ _ _ c.self.view_is _ _ _ _ _ c.reset_only.result (cleared_alone c.args.at.number) (λ events. g.E.Emit.emits c.args.out.now events c.reset_only.new.out) c.reset_only.ensures.did c.reset_only.ensures.emits;
  alone = λ commons.
      alone_after _ _ _ _ _ c.self.view_is _ _ _ commons c.requires.keeps
      (goes_after _ _ _ _ _ c.self.view_is _ _ _ _ _ c.reset_only.result (cleared_alone c.args.at.number (stands_for c.self.inside.tree c.args.space.now)) c.requires.keeps c.reset_only.ensures.did c.reset_only.ensures.err);
  asked =
      asked_after _ _ _ _ _ c.self.view_is _ _ _ _ _ c.reset_only.result (cleared_alone c.args.at.number (stands_for c.self.inside.tree c.args.space.now)) c.reset_only.ensures.did c.reset_only.ensures.err;
  refused = refused_after _ _ _ _ _ c.self.view_is _ _ _ _ _ c.reset_only.result c.reset_only.ensures.err;
  silent = search rules;
}
