-- An owner's newest item of a kind and key is given back, where it has one.
use Rattle.session_ends.proofs.Base.{arith, nat_tests, ◌≡◌, ℕ, false, Option, None, List, [], ◌∷◌, Result, Ok, Err, OnErr, OnOk, refl, sym, ap, ◌∙◌, subst, find, ok_or}
use Rattle.session_ends.proofs.Words.{Space, Item, KindId, What, ShelfState, is_of, without_newest, forgotten, has_begun, items_of, OwnerError, NotOwned, owners_of, Balances, CommonState, seen_by, balances_none, SessionState, Scene, Ended, changes, in_order, nothing, say, where_there, given_back, item_released, begun_changed, StoreState, scene_of, session_of, Acted, Refused, acted_as}
use Rattle.pgs_step.specs.declared.events.What.TheVariants as what

-- without an item nothing is done
nothing_there : {A : Type 0} (i : Option A) (act : A → Scene → Ended) (z : Scene) → i ≡ None → nothing z ≡ where_there i act z
nothing_there x0 act z e = grind (arith, nat_tests)

is_none : (i : Option Item) (e : OwnerError) → Err e ≡ ok_or i NotOwned → i ≡ None
is_none x0 e is = grind (arith, nat_tests)

-- nothing is done
module _ (O : Type 0) (emits : O → List What → O → Type 0) (none : (o : O) → emits o [] o) where
  pub acted_refused : (a b : StoreState) (s t : Space) (x y : ShelfState) (c d : CommonState) (p q : O) → Refused a b s t x y c d → q ≡ p → Acted nothing a b s t x y c d (λ events. emits p events q)
  acted_refused a b s t x y c d p q h silent = record {
    leads = λ around.
        ap (λ (z : SessionState). record { session = z; around = record (seen_by a.owners c around) { shelf = x; space = s.limit; descriptors = a.owners.descriptors } }) (sym h.session)
        ∙ ap (λ (v : StoreState). record { session = session_of b t; around = record (seen_by v.owners c around) { shelf = x; space = s.limit; descriptors = v.owners.descriptors } }) (sym h.store)
        ∙ ap (λ (k : CommonState). record { session = session_of b t; around = record (seen_by b.owners k around) { shelf = x; space = s.limit; descriptors = b.owners.descriptors } }) (sym h.commons)
        ∙ ap (λ (z : ShelfState). record { session = session_of b t; around = record (seen_by b.owners d around) { shelf = z; space = s.limit; descriptors = b.owners.descriptors } }) (sym h.shelf)
        ∙ ap (λ (n : ℕ). record { session = session_of b t; around = record (seen_by b.owners d around) { shelf = y; space = n; descriptors = b.owners.descriptors } }) (sym h.limit);
    says = λ around. subst (λ (o : O). emits p [] o) (sym silent) (none p);
    balances = subst (λ (v : StoreState). Balances a.owners v.owners c d) (sym h.store) (subst (λ (k : CommonState). Balances a.owners a.owners c k) (sym h.commons) (balances_none a.owners c));
  }

  pub forgets : (o : ℕ) (kind : KindId) (key : ℕ) (a b : StoreState) (s t : Space) (x y : ShelfState) (c d : CommonState) (p q : O) (r : Result Item OwnerError) → r ≡ ok_or (find (is_of kind key) (items_of o (owners_of a.owners))) NotOwned
      → OnOk r (Acted (item_released o kind key) a b s t x y c d (λ events. emits p events q)) → OnErr r (Refused a b s t x y c d) → OnErr r (q ≡ p) → Acted (item_released o kind key) a b s t x y c d (λ events. emits p events q)
  unfolding session_of
  forgets o kind key a b s t x y c d p q (Ok item) is acted refused silent = acted
  forgets o kind key a b s t x y c d p q (Err e) is acted refused silent =
      acted_as nothing (item_released o kind key) a b s t x y c d (λ events. emits p events q)
      (λ around.
      nothing_there (find (is_of kind key) (items_of o (owners_of a.owners)))
      (λ item. in_order (changes (λ session. record session { owners = forgotten o kind key session.owners }) ∷ say (what.Release item o) ∷ given_back item ∷ [])) (scene_of a s x c around)
      (is_none (find (is_of kind key) (items_of o (owners_of a.owners))) e is))
      (acted_refused a b s t x y c d p q refused silent)

-- its release has not begun still
pub still_unbegun : (o : ℕ) (kind : KindId) (key : ℕ) (a b : StoreState) (s t : Space) (x y : ShelfState) (c d : CommonState) (r : Result Item OwnerError) → has_begun o (owners_of a.owners) ≡ false → OnOk r (owners_of b.owners ≡ forgotten o kind key (owners_of a.owners)) → OnErr r (Refused a b s t x y c d)
    → has_begun o (owners_of b.owners) ≡ false
still_unbegun o kind key a b s t x y c d (Ok item) unbegun is refused =
    ap (has_begun o) is ∙ begun_changed o o (λ owner. record owner { items = without_newest (is_of kind key) owner.items }) (owners_of a.owners) (λ z. refl) ∙ unbegun
still_unbegun o kind key a b s t x y c d (Err e) unbegun is refused = ap (λ (v : StoreState). has_begun o (owners_of v.owners)) refused.store ∙ unbegun
