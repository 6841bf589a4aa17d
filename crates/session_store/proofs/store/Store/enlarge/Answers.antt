-- The owners' room alone changes.
use Rattle.session_store.proofs.Words.{rules, ◌≡◌, ◌≢◌, ◌↔◌, ℕ, true, Err, ap, ◌∙◌, subst, has_begun, owners_of, spare_of, nothing, Acted, IsSilent, StoreState, session_of}
use Rattle.session_store.proofs.Lemmas.{go_same, owner_in, owners_alone_after, placed_owners, room_acted, same_session}
use Rattle.owner_core.specs.declared.errors.OwnerError.TheVariants.{Releasing}
use Rattle.session_store.proofs.store.Store.enlarge.Goals as goal

pub enlarge-requires : goal.enlarge-requires
enlarge-requires g c = record { live = owner_in _ _ _ _ _ c.self.view_is c.args.owner c.requires.live }

pub invariant_of-self : goal.invariant_of-self
invariant_of-self g c = placed_owners _ _ _ _ _ c.self.invariant (go_same _ _ c.enlarge.ensures.owners c.enlarge.ensures.places c.enlarge.ensures.plans)

pub returns : goal.returns
returns g c = record {
  spare = search rules;
  others =
      subst (λ (a : StoreState). (other : ℕ) → other ≢ c.args.owner.number → spare_of other c.enlarge.new.self ≡ spare_of other a.owners) c.self.view_is c.enlarge.ensures.others;
  acted = λ s x commons.
      let a : StoreState = record { tree = c.self.inside.tree; owners = c.self.inside.owners; levels = c.self.inside.levels; portals = c.self.inside.portals } in
      subst (λ (v : StoreState). Acted nothing v (record a { owners = c.enlarge.new.self }) s s x x commons commons IsSilent) c.self.view_is
      (room_acted a c.enlarge.new.self s x commons (same_session a c.enlarge.new.self s c.enlarge.ensures.owners c.enlarge.ensures.next_owner c.enlarge.ensures.next_serial c.enlarge.ensures.recent c.enlarge.ensures.locks c.enlarge.ensures.stack c.enlarge.ensures.plans)
      c.enlarge.ensures.descriptors (c.enlarge.ensures.balances commons));
  session = λ s.
      same_session (record { tree = c.self.inside.tree; owners = c.self.inside.owners; levels = c.self.inside.levels; portals = c.self.inside.portals }) c.enlarge.new.self s c.enlarge.ensures.owners c.enlarge.ensures.next_owner c.enlarge.ensures.next_serial c.enlarge.ensures.recent c.enlarge.ensures.locks c.enlarge.ensures.stack c.enlarge.ensures.plans
      ∙ ap (λ (a : StoreState). session_of a s) c.self.view_is;
  alone = λ commons. owners_alone_after _ _ _ _ _ c.self.view_is _ commons commons (go_same _ _ c.enlarge.ensures.owners c.enlarge.ensures.places c.enlarge.ensures.plans) (c.enlarge.ensures.balances commons);
  plans = search rules;
  releasing =
      subst (λ (a : StoreState). (c.enlarge.result ≡ Err Releasing) ↔ (has_begun c.args.owner.number (owners_of a.owners) ≡ true)) c.self.view_is c.enlarge.ensures.releasing;
  refused = search rules;
  not_too_many = search rules;
  not_owned = search rules;
}
