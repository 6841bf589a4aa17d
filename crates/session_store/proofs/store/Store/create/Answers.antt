-- What the tree did is what the session's rules say.
use Rattle.session_store.proofs.Words.{rules, ◌≡◌, ◌⊎◌, ℕ, ◌<◌, ◌^◌, false, None, Some, IfErr, IfOk, OnOk, refl, sym, subst, Asks, Contexts, create_refusal, Memory, AsksInVain, StoreState}
use Rattle.session_store.proofs.Lemmas.{goes_made, agrees_in, alone_after, left_through, live_in, made_after, placed_after, regions_after}
use Rattle.any_ctx.specs.Kinds.{first_size}
use Rattle.session_store.proofs.store.Store.create.Goals as goal

pub create-requires : goal.create-requires
create-requires g c = record {
  agrees = agrees_in _ _ _ _ _ c.self.view_is c.args.space.now c.requires.keeps;
  live = live_in _ _ _ _ _ c.self.view_is c.args.parent c.requires.live;
  room = subst (λ (a : StoreState). a.tree.next < 2 ^ 62) (sym c.self.view_is) c.requires.room;
  slab = search rules;
}

pub invariant_of-self : goal.invariant_of-self
invariant_of-self g c =
    placed_after _ _ _ _ _ c.self.view_is _ _ _ c.requires.stands.0 c.requires.stands.1.0 c.requires.stands.1.1 c.self.invariant
    (goes_made _ _ _ _ c.create.ensures.moves c.create.ensures.stays c.create.ensures.fresh c.create.ensures.current)

pub returns : goal.returns
returns g c = record {
  number = subst (λ (a : StoreState). IfOk c.create.result (λ id. id.number ≡ a.tree.next)) c.self.view_is c.create.ensures.number;
  live = search rules;
  acted =
      made_after _ _ _ _ _ c.self.view_is _ _ _ c.create.result c.args.parent.number c.args.name c.args.kind (λ events. g.E.Emit.emits c.args.out.now events c.create.new.out)
      c.create.ensures.contexts c.create.ensures.next c.create.ensures.emits c.create.ensures.current c.create.ensures.moves.limit;
  alone = λ commons.
      alone_after _ _ _ _ _ c.self.view_is _ _ _ commons c.requires.keeps (goes_made _ _ _ _ c.create.ensures.moves c.create.ensures.stays c.create.ensures.fresh c.create.ensures.current);
  asked =
      subst (λ (a : StoreState). OnOk c.create.result (Asks a.tree.account (first_size c.args.kind) c.args.space.now c.create.new.space)) c.self.view_is c.create.ensures.asked;
  served =
      left_through _ _ _ _ _ c.self.view_is (λ (account n left : ℕ) (contexts : Contexts). OnOk c.create.result (create_refusal left c.args.name c.args.kind false contexts ≡ None)) c.args.space.now _ refl c.requires.keeps
      c.create.ensures.served;
  cause =
      left_through _ _ _ _ _ c.self.view_is (λ (account n left : ℕ) (contexts : Contexts). IfErr c.create.result (λ e. (e ≡ Memory) ⊎ (create_refusal left c.args.name c.args.kind false contexts ≡ Some e))) c.args.space.now _ refl c.requires.keeps
      c.create.ensures.refused;
  refused = regions_after _ _ _ _ _ c.self.view_is _ _ _ c.create.result c.create.ensures.err c.create.ensures.err_space;
  err_asked =
      subst (λ (a : StoreState). IfErr c.create.result (λ e. AsksInVain e a.tree.account (first_size c.args.kind) c.args.space.now c.create.new.space)) c.self.view_is c.create.ensures.err_asked;
  silent = search rules;
}
