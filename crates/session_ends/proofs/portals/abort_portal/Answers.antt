-- The portal changes, what is below its context goes where it is of the level, and its owner moves where it has failed further out.
use Rattle.session_ends.proofs.Base.{◌≡◌, ◌≢◌, ◌-◌, true, false, Option, ◌∷◌, IfSome, length, refl, sym, ap, ◌∙◌, subst, arith, ◌==◌, option_and_then, slice_get, slice_set, option_map}
use Rattle.session_ends.proofs.Words.{Empty, Once, children, has, is_above, CtxId, OwnerId, IsLive, Portal, moved_owner, sub_aborted, ResourceState, owners_of, children_gone, nothing, portal_becomes, where_there, StoreState, contexts_in, portal_state, Acted, EndsSo, IsEnding, left_by, number_in, Aborts}
use Rattle.session_owners.specs.ResourceState as owners
use Rattle.session_ends.proofs.Lemmas.{aborted_acted, moved_some, acted_quiet, alone_above, alone_hooks, alone_live, alone_once, context_above_none, context_live, ending_are, ending_hooks, ending_once, if_taken, is_to, owner_live, owner_lone, owner_other, owner_there, owners_once, same_acted, set_acted, to_there, within_active, out_alone, out_more, some_is, left_within}
use Rattle.session_ends.proofs.portals.abort_portal.Goals as goal

pub sub_abort-moved-requires-clause-left : goal.sub_abort-moved-requires-clause-left
sub_abort-moved-requires-clause-left g c =
    left_within (left_by (Aborts c.args.own)) c.args.store.now c.args.space.now c.args.shelf.now c.requires.ending.0 (portal_state c.args.portal ∷ c.requires.ending.1.0) c.args.left c.requires.ending.1.1.1 (let long = c.requires.ending.1.1.0 in omega (arith, long))

pub sub_abort-moved-requires-clause-some : goal.sub_abort-moved-requires-clause-some
sub_abort-moved-requires-clause-some g c = let long = c.requires.ending.1.1.0 in omega (arith, long)

pub clear_memory-requires : goal.clear_memory-requires
clear_memory-requires g c = record {
  keeps =
      let out = out_alone c.args.store.now c.sub_abort-moved.new.store c.args.space.now c.requires.keeps c.sub_abort-moved.ensures.alone in
      out.keeps;
  hooks = alone_hooks c.args.store.now c.sub_abort-moved.new.store c.sub_abort-moved.ensures.alone c.args.space.now c.args.shelf.now (ending_hooks (left_by (Aborts c.args.own)) c.args.store.now c.args.space.now c.args.shelf.now c.requires.ending.0 c.args.portal c.requires.ending.1.0 c.requires.ending.1.1.1);
  live = alone_live c.args.store.now c.sub_abort-moved.new.store c.sub_abort-moved.ensures.alone _
      (subst (λ (o : Option CtxId). IfSome o (IsLive c.args.store.now.tree)) (sym c.context_of-context.ensures)
      (if_taken (IsLive c.args.store.now.tree) (c.args.portal.created == c.args.level) c.args.portal.context (λ _. context_live (left_by (Aborts c.args.own)) c.args.store.now c.args.space.now c.args.shelf.now c.requires.ending.0 c.args.portal c.requires.ending.1.0 c.requires.ending.1.1.1 c.requires.lies)));
  apart = alone_above c.args.store.now c.sub_abort-moved.new.store c.sub_abort-moved.ensures.alone c.args.space.now _
      (subst (λ (o : Option CtxId). IfSome o (λ (id : CtxId). is_above id.number c.args.store.now.tree.current.number (contexts_in c.args.store.now c.args.space.now) ≡ false)) (sym c.context_of-context.ensures)
      (if_taken (λ (id : CtxId). is_above id.number c.args.store.now.tree.current.number (contexts_in c.args.store.now c.args.space.now) ≡ false) (c.args.portal.created == c.args.level) c.args.portal.context (λ _. context_above_none (left_by (Aborts c.args.own)) c.args.store.now c.args.space.now c.args.shelf.now c.requires.ending.0 c.args.portal c.requires.ending.1.0 c.requires.ending.1.1.1)));
  once = alone_once c.args.store.now c.sub_abort-moved.new.store c.sub_abort-moved.ensures.alone c.args.space.now (ending_once (left_by (Aborts c.args.own)) c.args.store.now c.args.space.now c.args.shelf.now c.requires.ending.0 c.args.portal c.requires.ending.1.0 c.requires.ending.1.1.1);
}

pub move_to-requires : goal.move_to-requires
move_to-requires g c =
    let gives : c.sub_abort-moved.result ≡ moved_owner c.args.level c.args.portal = c.sub_abort-moved.ensures.moved ∙ ap (option_and_then (moved_owner c.args.level)) c.requires.at in
    let e : IsEnding (left_by (Aborts c.args.own)) c.args.store.now c.args.space.now c.args.shelf.now c.requires.ending.0 (portal_state c.args.portal ∷ c.requires.ending.1.0) = c.requires.ending.1.1.1 in
    record {
      live = subst (λ (q : ResourceState). IfSome c.sub_abort-moved.result (owners.IsLive q)) (sym (c.clear_memory.ensures.owners ∙ c.sub_abort-moved.ensures.alone.owners))
          (subst (λ (o : Option OwnerId). IfSome o (owners.IsLive c.args.store.now.owners)) (sym gives) (moved_some (owners.IsLive c.args.store.now.owners) c.args.level c.args.portal (owner_live (left_by (Aborts c.args.own)) c.args.store.now c.args.space.now c.args.shelf.now c.requires.ending.0 c.args.portal c.requires.ending.1.0 c.requires.ending.1.1.1 c.requires.lies)));
      to = subst (λ (q : ResourceState). IfSome c.args.own (owners.IsLive q)) (sym (c.clear_memory.ensures.owners ∙ c.sub_abort-moved.ensures.alone.owners)) c.requires.to;
      there = subst (λ (q : ResourceState). IfSome c.sub_abort-moved.result (λ (i : OwnerId). has i.number (owners_of q) ≡ true)) (sym (c.clear_memory.ensures.owners ∙ c.sub_abort-moved.ensures.alone.owners))
          (subst (λ (o : Option OwnerId). IfSome o (λ (i : OwnerId). has i.number (owners_of c.args.store.now.owners) ≡ true)) (sym gives)
          (moved_some (λ (i : OwnerId). has i.number (owners_of c.args.store.now.owners) ≡ true) c.args.level c.args.portal (owner_there (left_by (Aborts c.args.own)) c.args.store.now c.args.space.now c.args.shelf.now c.requires.ending.0 c.args.portal c.requires.ending.1.0 c.requires.ending.1.1.1)));
      to_there = subst (λ (q : ResourceState). IfSome c.args.own (λ (i : OwnerId). has i.number (owners_of q) ≡ true)) (sym (c.clear_memory.ensures.owners ∙ c.sub_abort-moved.ensures.alone.owners))
          (to_there (left_by (Aborts c.args.own)) c.args.store.now c.args.space.now c.args.shelf.now c.requires.ending.0 c.args.portal c.requires.ending.1.0 c.requires.ending.1.1.1 c.args.own (is_to (Aborts c.args.own) e.level e.above (subst (EndsSo (Aborts c.args.own)) e.are c.requires.so)));
      other = subst (λ (o : Option OwnerId). IfSome o (λ (i : OwnerId). IfSome c.args.own (λ (t : OwnerId). t.number ≢ i.number))) (sym gives)
          (moved_some (λ (i : OwnerId). IfSome c.args.own (λ (t : OwnerId). t.number ≢ i.number)) c.args.level c.args.portal
          (owner_other (left_by (Aborts c.args.own)) c.args.store.now c.args.space.now c.args.shelf.now c.requires.ending.0 c.args.portal c.requires.ending.1.0 c.requires.ending.1.1.1 c.args.own (is_to (Aborts c.args.own) e.level e.above (subst (EndsSo (Aborts c.args.own)) e.are c.requires.so))));
      lone = subst (λ (q : ResourceState). IfSome c.sub_abort-moved.result (λ (i : OwnerId). children i.number (owners_of q) ≡ Empty)) (sym (c.clear_memory.ensures.owners ∙ c.sub_abort-moved.ensures.alone.owners))
          (subst (λ (o : Option OwnerId). IfSome o (λ (i : OwnerId). children i.number (owners_of c.args.store.now.owners) ≡ Empty)) (sym gives)
          (moved_some (λ (i : OwnerId). children i.number (owners_of c.args.store.now.owners) ≡ Empty) c.args.level c.args.portal (owner_lone (left_by (Aborts c.args.own)) c.args.store.now c.args.space.now c.args.shelf.now c.requires.ending.0 c.args.portal c.requires.ending.1.0 c.requires.ending.1.1.1)));
      once = subst (λ (q : ResourceState). Once (owners_of q)) (sym (c.clear_memory.ensures.owners ∙ c.sub_abort-moved.ensures.alone.owners)) (owners_once (left_by (Aborts c.args.own)) c.args.store.now c.args.space.now c.args.shelf.now c.requires.ending.0 c.args.portal c.requires.ending.1.0 c.requires.ending.1.1.1);
    }

pub returns : goal.returns
returns g c = record {
  acted = λ m. let p : Portal = c.args.portal in
      let a : StoreState = c.args.store.now in
      let b : StoreState = c.sub_abort-moved.new.store in
      let d : StoreState = c.clear_memory.new.store in
      let f : StoreState = c.move_to.new.store in
      let s = c.args.space.now in
      let t = c.clear_memory.new.space in
      let x = c.args.shelf.now in
      let y = c.clear_memory.new.shelf in
      let e : IsEnding (left_by (Aborts c.args.own)) a s x c.requires.ending.0 (portal_state p ∷ c.requires.ending.1.0) = c.requires.ending.1.1.1 in
      let gives : c.sub_abort-moved.result ≡ moved_owner c.args.level p = c.sub_abort-moved.ensures.moved ∙ ap (option_and_then (moved_owner c.args.level)) c.requires.at in
      let new : b.portals ≡ slice_set a.portals (length a.portals - c.args.left) (sub_aborted c.args.level p) =
      some_is (λ (r : Portal). b.portals ≡ slice_set a.portals (length a.portals - c.args.left) (sub_aborted c.args.level r)) (slice_get a.portals (length a.portals - c.args.left)) p c.sub_abort-moved.ensures.portal c.requires.at in
      let are = ending_are (left_by (Aborts c.args.own)) c.args.store.now c.args.space.now c.args.shelf.now c.requires.ending.0 c.args.portal c.requires.ending.1.0 c.requires.ending.1.1.1 in
      let none = g.met.E.Emit.emits_none in
      aborted_acted _ (λ o events p. g.E.Emit.emits o events p) none (λ o p q xs ys h k. g.met.E.Emit.emits_more _ _ _ _ _ _ h k refl) c.args.level (number_in c.args.own) p c.sub_abort-moved.result a b d f s t x y m c.args.out.now c.clear_memory.new.out c.move_to.new.out gives
      (within_active (left_by (Aborts c.args.own)) c.args.store.now c.args.space.now c.args.shelf.now c.requires.ending.0 c.args.portal c.requires.ending.1.0 c.requires.ending.1.1.1)
      (λ h to. acted_quiet _ (λ o events p. g.E.Emit.emits o events p) none (λ o p q xs ys h k. g.met.E.Emit.emits_more _ _ _ _ _ _ h k refl) (portal_becomes p.name h) a b s s x x m m c.args.out.now
      (set_acted a b p e.front c.requires.ending.1.0 c.sub_abort-moved.ensures.alone are e.ending.different (sub_aborted c.args.level p) h c.args.left to c.requires.ending.1.1.0 new s x m))
      (λ same. acted_quiet _ (λ o events p. g.E.Emit.emits o events p) none (λ o p q xs ys h k. g.met.E.Emit.emits_more _ _ _ _ _ _ h k refl) nothing a b s s x x m m c.args.out.now
      (same_acted a b p e.front c.requires.ending.1.0 c.sub_abort-moved.ensures.alone are e.ending.different c.args.left c.requires.ending.1.1.0 c.requires.at (new ∙ ap (slice_set a.portals (length a.portals - c.args.left)) same) s x m))
      (subst (λ (o : Option CtxId). Acted (λ scene. where_there (option_map (λ (id : CtxId). id.number) o) children_gone scene) b d s t x y m m (λ events. g.E.Emit.emits c.args.out.now events c.clear_memory.new.out)) c.context_of-context.ensures (c.clear_memory.ensures.acted m))
      (c.move_to.ensures.acted t y m);
  out =
      let a : StoreState = c.args.store.now in
      out_more a c.sub_abort-moved.new.store c.move_to.new.store c.args.space.now c.args.space.now c.clear_memory.new.space (out_alone a c.sub_abort-moved.new.store c.args.space.now c.requires.keeps c.sub_abort-moved.ensures.alone)
      (out_more c.sub_abort-moved.new.store c.clear_memory.new.store c.move_to.new.store c.args.space.now c.clear_memory.new.space c.clear_memory.new.space c.clear_memory.ensures.out (c.move_to.ensures.out c.clear_memory.new.space c.clear_memory.ensures.out.keeps));
  stays = λ id live. c.move_to.ensures.stays id (subst (λ (q : ResourceState). owners.IsLive q id) (sym (c.clear_memory.ensures.owners ∙ c.sub_abort-moved.ensures.alone.owners)) live);
}
