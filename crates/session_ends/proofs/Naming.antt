-- The portal of a name, in the list that a store keeps and in that of the session.
use Rattle.session_ends.proofs.Base.{◌≡◌, ◌≢◌, ℕ, zero, suc, false, List, [], ◌∷◌, Some, AllPairs, All, refl, sym, ap, subst, ◌∙◌, inl, inr, arith, option_map, cases_Bool, false_from_ne_true, All-cons, All-head, All-tail, nat_tests}
use Rattle.session_ends.proofs.Words.{is_text, is_text-means, Portal, HasDistinctNames, changed, has_name, names, portal_named, OpenPortal, portal_changed, portal_state, portals_of}
use Rattle.session_rules.specs.Lookup as rules

-- the portal of a name is that of the session
pub named_is : (name : List ℕ) (ps : List Portal) → option_map portal_state (portal_named name ps) ≡ rules.portal_named name (portals_of ps)
named_is name [] = refl
named_is name (p ∷ ps) = grind (arith, nat_tests, has_name name p, named_is name ps)

-- what is known of all is known of it
pub named_all : (P : Portal → Type 0) (name : List ℕ) (ps : List Portal) (p : Portal) → All P ps → portal_named name ps ≡ Some p → P p
named_all P name [] p all e = absurd (cc e)
named_all P name (q ∷ ps) p all e = elim (cases_Bool (has_name name q)) [
  | inl y ↦ let same : Some q ≡ Some p = rw y at e in let is : q ≡ p = cc same in subst P is (All-head P q ps all)
  | inr y ↦ named_all P name ps p (All-tail P q ps all) (rw y at e)
]

-- what is known of all is known of all behind a change that keeps it
pub changed_all : (P : Portal → Type 0) (name : List ℕ) (f : Portal → Portal) (ps : List Portal) → ((p : Portal) → portal_named name ps ≡ Some p → P p → P (f p)) → All P ps → All P (changed name f ps)
changed_all P name f [] on all = all
changed_all P name f (q ∷ ps) on all = elim (cases_Bool (has_name name q)) [
  | inl y ↦ grind (arith, nat_tests, y, All-cons P (f q) ps (on q (rw y refl) (All-head P q ps all)) (All-tail P q ps all))
  | inr y ↦
      let behind : portal_named name (q ∷ ps) ≡ portal_named name ps = rw y refl in
      rw y (All-cons P q (changed name f ps) (All-head P q ps all) (changed_all P name f ps (λ p e. on p (behind ∙ e)) (All-tail P q ps all)))
]

-- names that differ
module _ (R : List ℕ → List ℕ → Type 0) (x : List ℕ) (xs : List (List ℕ)) (h : AllPairs R (x ∷ xs)) where
  pairs_tail : AllPairs R xs
  pairs_tail = λ i j d l m. h (suc i) (suc j) d (omega (arith, l)) (omega (arith, m))

  pairs_head : All (R x) xs
  pairs_head = λ i d l. h zero (suc i) d (omega arith) (omega (arith, l))

abbrev Differs : List ℕ → List ℕ → Type 0
Differs a b = a ≢ b

other_text : (name : List ℕ) (q : Portal) → Differs name q.name → is_text q.name name ≡ false
other_text name q differs = false_from_ne_true (is_text q.name name) (λ u. differs (sym (is_text-means q.name name u)))

none_changed : (name : List ℕ) (f : OpenPortal → OpenPortal) (ps : List Portal) → All (Differs name) (names ps) → portal_changed name f (portals_of ps) ≡ portals_of ps
none_changed name f [] all = refl
none_changed name f (q ∷ ps) all = grind (arith, nat_tests, other_text name q (All-head (Differs name) q.name (names ps) all), none_changed name f ps (All-tail (Differs name) q.name (names ps) all))

first_others : (p : Portal) (ps : List Portal) (name : List ℕ) → HasDistinctNames (p ∷ ps) → p.name ≡ name → All (Differs name) (names ps)
first_others p ps name distinct is = subst (λ (n : List ℕ). All (λ b. n ≢ b) (names ps)) is (pairs_head (λ (a b : List ℕ). a ≢ b) p.name (names ps) distinct)

-- a portal changes
pub changed_is : (name : List ℕ) (f : Portal → Portal) (g : OpenPortal → OpenPortal) (ps : List Portal) → HasDistinctNames ps → ((p : Portal) → portal_state (f p) ≡ g (portal_state p)) → portals_of (changed name f ps) ≡ portal_changed name g (portals_of ps)
changed_is name f g [] distinct same = refl
changed_is name f g (p ∷ ps) distinct same = elim (cases_Bool (has_name name p)) [
  | inl y ↦ grind (arith, nat_tests, first_others p ps name distinct (is_text-means p.name name y), y, same p, none_changed name g ps (first_others p ps name distinct (is_text-means p.name name y)))
  | inr y ↦ rw y (ap (λ (rs : List OpenPortal). portal_state p ∷ rs) (changed_is name f g ps (pairs_tail (λ (a b : List ℕ). a ≢ b) p.name (names ps) distinct) same))
]
