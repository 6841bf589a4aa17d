-- What the tree did is what the session's rules say.
use Rattle.session_store.proofs.Words.{rules, ◌≡◌, subst, children_gone, reset_refusal, error_of, stands_for, StoreState, session_of}
use Rattle.session_store.proofs.Lemmas.{acted_after, agrees_in, alone_after, asked_after, goes_after, hooks_in, live_in, placed_after, refused_after}
use Rattle.session_store.proofs.store.Store.delete_children.Goals as goal

pub delete_children-requires : goal.delete_children-requires
delete_children-requires g c = record {
  agrees = agrees_in _ _ _ _ _ c.self.view_is c.args.space.now c.requires.keeps;
  live = live_in _ _ _ _ _ c.self.view_is c.args.at c.requires.live;
  hooks = hooks_in _ _ _ _ _ c.self.view_is c.args.space.now c.args.shelf.now c.requires.stands.0 c.requires.stands.1;
}

pub invariant_of-self : goal.invariant_of-self
invariant_of-self g c =
    let n = c.args.at.number in
    placed_after _ _ _ _ _ c.self.view_is _ _ _ c.args.shelf.now c.requires.stands.0 c.requires.stands.1 c.self.invariant
    (goes_after _ _ _ _ _ c.self.view_is _ _ _ _ _ c.delete_children.result (children_gone n (stands_for c.self.inside.tree c.args.space.now)) c.requires.keeps c.delete_children.ensures.did c.delete_children.ensures.err)

pub returns : goal.returns
unfolding session_of
returns g c = record {
  answer = subst (λ (a : StoreState). error_of c.delete_children.result ≡ reset_refusal c.args.at.number a.tree.current.number (session_of a c.args.space.now).contexts) c.self.view_is c.delete_children.ensures.answer;
  acted =
      acted_after _ _ _ _ _ c.self.view_is _ _ _ _ _ c.delete_children.result (children_gone c.args.at.number) (λ events. g.E.Emit.emits c.args.out.now events c.delete_children.new.out) c.delete_children.ensures.did c.delete_children.ensures.emits;
  alone = λ commons.
      alone_after _ _ _ _ _ c.self.view_is _ _ _ commons c.requires.keeps
      (goes_after _ _ _ _ _ c.self.view_is _ _ _ _ _ c.delete_children.result (children_gone c.args.at.number (stands_for c.self.inside.tree c.args.space.now)) c.requires.keeps c.delete_children.ensures.did c.delete_children.ensures.err);
  asked =
      asked_after _ _ _ _ _ c.self.view_is _ _ _ _ _ c.delete_children.result (children_gone c.args.at.number (stands_for c.self.inside.tree c.args.space.now)) c.delete_children.ensures.did c.delete_children.ensures.err;
  refused = refused_after _ _ _ _ _ c.self.view_is _ _ _ _ _ c.delete_children.result c.delete_children.ensures.err;
  silent = search rules;
}
