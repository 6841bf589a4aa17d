-- What the tree did is what the session's rules say.
use Rattle.session_store.proofs.Words.{rules, ◌≡◌, ap, ◌∙◌, subst, on_err, set_parent_refusal, TreeState, error_of, StoreState, session_of}
use Rattle.session_store.proofs.Lemmas.{placed_on, agrees_in, alone_after, live_in, moved_after, there_in}
use Rattle.session_store.proofs.store.Store.reparent.Goals as goal

pub set_parent-requires : goal.set_parent-requires
set_parent-requires g c = record {
  live = live_in _ _ _ _ _ c.self.view_is c.args.at c.requires.live;
  parent = live_in _ _ _ _ _ c.self.view_is c.args.parent c.requires.parent;
}

pub invariant_of-self : goal.invariant_of-self
invariant_of-self g c =
    placed_on _ _ _ _ _ c.self.invariant (there_in _ _ _ _ _ c.self.view_is c.requires.stands.0 c.requires.stands.1.0 c.requires.stands.1.1.0 c.requires.stands.1.1.1) (λ n was now. c.set_parent.ensures.places n) c.set_parent.ensures.current

pub returns : goal.returns
unfolding session_of
returns g c = record {
  answer = λ s.
      subst (λ (a : StoreState). error_of c.set_parent.result ≡ set_parent_refusal c.args.at.number c.args.parent.number (session_of a s).contexts) c.self.view_is (c.set_parent.ensures.answer s);
  acted =
      moved_after _ _ _ _ _ c.self.view_is _ c.set_parent.result c.args.at.number c.args.parent.number (λ events. g.E.Emit.emits c.args.out.now events c.set_parent.new.out)
      c.set_parent.ensures.contexts c.set_parent.ensures.emits c.set_parent.ensures.current c.set_parent.ensures.next;
  alone = λ s commons keeps.
      alone_after _ _ _ _ _ c.self.view_is _ _ _ commons keeps
      (record { moves = c.set_parent.ensures.moves s (agrees_in _ _ _ _ _ c.self.view_is s keeps); stays = λ n was now. c.set_parent.ensures.places n; current = c.set_parent.ensures.current });
  err =
      on_err c.set_parent.result (λ same. ap (λ (t : TreeState). record { tree = t; owners = c.self.inside.owners; levels = c.self.inside.levels; portals = c.self.inside.portals }) same ∙ c.self.view_is) c.set_parent.ensures.err;
  silent = search rules;
}
