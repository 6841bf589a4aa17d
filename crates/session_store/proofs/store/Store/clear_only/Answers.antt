-- What the tree did is what the session's rules say.
use Rattle.session_store.proofs.Words.{Ok, Result, cleared_alone, TreeError, stands_for}
use Rattle.session_store.proofs.Lemmas.{acted_after, agrees_in, alone_after, asked_after, goes_after, hooks_in, live_in, placed_after}
use Rattle.session_store.proofs.store.Store.clear_only.Goals as goal

-- it is always answered
abbrev answered : Result (Unit {0}) TreeError
answered = Ok tt

pub clear_only-requires : goal.clear_only-requires
clear_only-requires g c = record {
  agrees = agrees_in _ _ _ _ _ c.self.view_is c.args.space.now c.requires.keeps;
  live = live_in _ _ _ _ _ c.self.view_is c.args.at c.requires.live;
  hooks = hooks_in _ _ _ _ _ c.self.view_is c.args.space.now c.args.shelf.now c.requires.stands.0 c.requires.stands.1;
}

pub invariant_of-self : goal.invariant_of-self
invariant_of-self g c =
    let n = c.args.at.number in
    placed_after _ _ _ _ _ c.self.view_is _ _ _ c.args.shelf.now c.requires.stands.0 c.requires.stands.1 c.self.invariant
    (goes_after _ _ _ _ _ c.self.view_is _ _ _ _ _ answered (cleared_alone n (stands_for c.self.inside.tree c.args.space.now)) c.requires.keeps c.clear_only.ensures.did tt)

pub returns : goal.returns
returns g c = record {
  acted =
      acted_after _ _ _ _ _ c.self.view_is _ _ _ _ _ answered (cleared_alone c.args.at.number) (λ events. g.E.Emit.emits c.args.out.now events c.clear_only.new.out) c.clear_only.ensures.did c.clear_only.ensures.emits;
  alone = λ commons.
      alone_after _ _ _ _ _ c.self.view_is _ _ _ commons c.requires.keeps
      (goes_after _ _ _ _ _ c.self.view_is _ _ _ _ _ answered (cleared_alone c.args.at.number (stands_for c.self.inside.tree c.args.space.now)) c.requires.keeps c.clear_only.ensures.did tt);
  asked =
      asked_after _ _ _ _ _ c.self.view_is _ _ _ _ _ answered (cleared_alone c.args.at.number (stands_for c.self.inside.tree c.args.space.now)) c.clear_only.ensures.did tt;
}
