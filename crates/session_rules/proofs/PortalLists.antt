-- What lists of portals keep where one of them changes or goes.
use Rattle.session_rules.proofs.Base.{◌≡◌, ◌≢◌, ◌⊎◌, ℕ, false, Some, List, [], ◌∷◌, ◌++◌, refl, sym, ap, ◌∙◌, inl, inr, All, false_from_ne_true, All-nil, All-cons, All-head, All-tail, All-weaker, Bool, true, arith, if◌then◌else◌, both_ways, cases_Bool, nat_tests}
use Rattle.session_rules.proofs.Below.{is_text, is_text-means, is_text-same, Contexts, OwnerTree}
use Rattle.session_rules.proofs.Rules.{OpenPortal, portal_changed, portals_but, AreDifferent, AreOther, IsOfPortal, LevelState, Text, IsAtRest, IsDead, IsLive, IsPortal}
use Rattle.session_rules.proofs.PlansKept.{all_replaced, all_without}
use Rattle.session_rules.proofs.Stacked.{depth_still}

-- what holds of each portal of such a list
module _ (P : OpenPortal → Type 0) where
  pub all_front : (front back : List OpenPortal) → All P (front ++ back) → All P front
  all_front [] back h = All-nil P
  all_front (x ∷ xs) back h = All-cons P x xs (All-head P x (xs ++ back) h) (all_front xs back (All-tail P x (xs ++ back) h))

  pub all_back : (front back : List OpenPortal) → All P (front ++ back) → All P back
  all_back [] back h = h
  all_back (x ∷ xs) back h = all_back xs back (All-tail P x (xs ++ back) h)

-- the others differ from one
pub others_front : (p : OpenPortal) (front back : List OpenPortal) → AreDifferent (front ++ (p ∷ back)) → All (λ q. AreOther q p) front
others_front p [] back h = All-nil (λ q. AreOther q p)
others_front p (x ∷ xs) back h =
    All-cons (λ q. AreOther q p) x xs (All-head (AreOther x) p back (all_back (AreOther x) xs (p ∷ back) h.0)) (others_front p xs back h.1)

pub others_back : (p : OpenPortal) (front back : List OpenPortal) → AreDifferent (front ++ (p ∷ back)) → All (AreOther p) back
others_back p [] back h = h.0
others_back p (x ∷ xs) back h = others_back p xs back h.1

-- one goes
pub different_without : (p : OpenPortal) (front back : List OpenPortal) → AreDifferent (front ++ (p ∷ back)) → AreDifferent (front ++ back)
different_without p [] back h = h.1
different_without p (x ∷ xs) back h = (all_without (AreOther x) p xs back h.0, different_without p xs back h.1)

-- one changes: it keeps its name, and gets neither another context nor another owner
pub record Changes (p q : OpenPortal) : Type 0 where
  pub name : q.name ≡ p.name
  pub context : (n : ℕ) → q.context ≡ Some n → p.context ≡ Some n
  pub owner : (n : ℕ) → q.owner ≡ Some n → p.owner ≡ Some n

pub different_changed : (p q : OpenPortal) (front back : List OpenPortal) → Changes p q → AreDifferent (front ++ (p ∷ back)) → AreDifferent (front ++ (q ∷ back))
different_changed p q [] back c h = grind (arith, nat_tests)
different_changed p q (x ∷ xs) back c h = grind (arith, nat_tests, all_replaced (AreOther x) p q xs back, different_changed p q xs back c h.1)

-- whose owner it is
pub owner_split : (n : ℕ) (p : OpenPortal) (front back : List OpenPortal) → IsOfPortal n (front ++ (p ∷ back)) → (p.owner ≡ Some n) ⊎ IsOfPortal n (front ++ back)
owner_split n p [] back i = i
owner_split n p (x ∷ xs) back i = grind (arith, nat_tests, owner_split n p xs back)

pub owner_beside : (n : ℕ) (p : OpenPortal) (front back : List OpenPortal) → IsOfPortal n (front ++ back) → IsOfPortal n (front ++ (p ∷ back))
owner_beside n p [] back i = inr i
owner_beside n p (x ∷ xs) back i = elim i [ inl e ↦ inl e | inr j ↦ inr (owner_beside n p xs back j) ]

pub owner_here : (n : ℕ) (p : OpenPortal) (front back : List OpenPortal) → p.owner ≡ Some n → IsOfPortal n (front ++ (p ∷ back))
owner_here n p [] back e = inl e
owner_here n p (x ∷ xs) back e = inr (owner_here n p xs back e)

-- the portal of a name changes, or goes
other_name : (p q : OpenPortal) → q.name ≢ p.name → is_text q.name p.name ≡ false
other_name p q ne = false_from_ne_true (is_text q.name p.name) (λ u. ne (is_text-means q.name p.name u))

abbrev IsNamedOther : OpenPortal → OpenPortal → Type 0
IsNamedOther p q = q.name ≢ p.name

changed_none : (p : OpenPortal) (f : OpenPortal → OpenPortal) (xs : List OpenPortal) → All (IsNamedOther p) xs → portal_changed p.name f xs ≡ xs
changed_none p f [] h = refl
changed_none p f (x ∷ xs) h = grind (arith, nat_tests, other_name p x (All-head (IsNamedOther p) x xs h), changed_none p f xs (All-tail (IsNamedOther p) x xs h))

but_none : (p : OpenPortal) (xs : List OpenPortal) → All (IsNamedOther p) xs → portals_but p.name xs ≡ xs
but_none p [] h = refl
but_none p (x ∷ xs) h = grind (arith, nat_tests, other_name p x (All-head (IsNamedOther p) x xs h), but_none p xs (All-tail (IsNamedOther p) x xs h))

named_back : (p : OpenPortal) (front back : List OpenPortal) → AreDifferent (front ++ (p ∷ back)) → All (IsNamedOther p) back
named_back p front back h = All-weaker (AreOther p) (IsNamedOther p) (λ q o. o.name) back (others_back p front back h)

pub changed_one : (p : OpenPortal) (f : OpenPortal → OpenPortal) (front back : List OpenPortal) → AreDifferent (front ++ (p ∷ back)) → portal_changed p.name f (front ++ (p ∷ back)) ≡ front ++ (f p ∷ back)
changed_one p f [] back h = rw (is_text-same p.name) (ap (λ (ys : List OpenPortal). f p ∷ ys) (changed_none p f back (named_back p [] back h)))
changed_one p f (x ∷ xs) back h =
    let o : AreOther x p = All-head (λ q. AreOther q p) x xs (others_front p (x ∷ xs) back h) in
    rw (other_name p x (λ z. o.name (sym z))) (ap (λ (ys : List OpenPortal). x ∷ ys) (changed_one p f xs back h.1))

pub but_one : (p : OpenPortal) (front back : List OpenPortal) → AreDifferent (front ++ (p ∷ back)) → portals_but p.name (front ++ (p ∷ back)) ≡ front ++ back
but_one p [] back h = rw (is_text-same p.name) (but_none p back (named_back p [] back h))
but_one p (x ∷ xs) back h =
    let o : AreOther x p = All-head (λ q. AreOther q p) x xs (others_front p (x ∷ xs) back h) in
    rw (other_name p x (λ z. o.name (sym z))) (ap (λ (ys : List OpenPortal). x ∷ ys) (but_one p xs back h.1))

-- one gets a context that no other one has
pub different_new : (p q : OpenPortal) (front back : List OpenPortal) (new : ℕ) → q.name ≡ p.name → ((n : ℕ) → q.owner ≡ Some n → p.owner ≡ Some n) → ((n : ℕ) → q.context ≡ Some n → n ≡ new)
    → All (λ r. (n : ℕ) → r.context ≡ Some n → n ≢ new) (front ++ (p ∷ back)) → AreDifferent (front ++ (p ∷ back)) → AreDifferent (front ++ (q ∷ back))
different_new p q [] back new name owner is off h = (
  λ k r below.
      let o = h.0 k r below in
      let f = All-tail (λ r. (n : ℕ) → r.context ≡ Some n → n ≢ new) p back off k r below in
      record { name = λ z. o.name (z ∙ name); context = λ n e g. f n e (is n g); owner = λ n e g. o.owner n e (owner n g) },
  h.1,
)
different_new p q (x ∷ xs) back new name owner is off h =
    let mine : (n : ℕ) → x.context ≡ Some n → n ≢ new = All-head (λ r. (n : ℕ) → r.context ≡ Some n → n ≢ new) x (xs ++ (p ∷ back)) off in (
      all_replaced (AreOther x) p q xs back (λ o. record { name = λ z. o.name (sym name ∙ z); context = λ n e g. mine n g (is n e); owner = λ n e g. o.owner n (owner n e) g }) h.0,
      different_new p q xs back new name owner is (All-tail (λ r. (n : ℕ) → r.context ≡ Some n → n ≢ new) x (xs ++ (p ∷ back)) off) h.1,
    )

-- one gets an owner that no other one has
pub different_owned : (p q : OpenPortal) (front back : List OpenPortal) (new : ℕ) → q.name ≡ p.name → ((n : ℕ) → q.context ≡ Some n → p.context ≡ Some n) → ((n : ℕ) → q.owner ≡ Some n → n ≡ new)
    → All (λ r. (n : ℕ) → r.owner ≡ Some n → n ≢ new) (front ++ (p ∷ back)) → AreDifferent (front ++ (p ∷ back)) → AreDifferent (front ++ (q ∷ back))
different_owned p q [] back new name context is off h = (
  λ k r below.
      let o = h.0 k r below in
      let f = All-tail (λ r. (n : ℕ) → r.owner ≡ Some n → n ≢ new) p back off k r below in
      record { name = λ z. o.name (z ∙ name); context = λ n e g. o.context n e (context n g); owner = λ n e g. f n e (is n g) },
  h.1,
)
different_owned p q (x ∷ xs) back new name context is off h =
    let mine : (n : ℕ) → x.owner ≡ Some n → n ≢ new = All-head (λ r. (n : ℕ) → r.owner ≡ Some n → n ≢ new) x (xs ++ (p ∷ back)) off in (
      all_replaced (AreOther x) p q xs back (λ o. record { name = λ z. o.name (sym name ∙ z); context = λ n e g. o.context n (context n e) g; owner = λ n e g. mine n g (is n e) }) h.0,
      different_owned p q xs back new name context is (All-tail (λ r. (n : ℕ) → r.owner ≡ Some n → n ≢ new) x (xs ++ (p ∷ back)) off) h.1,
    )

-- no line is at work on a portal where the deepest level is aborted
pub rests_aborted : (p : OpenPortal) (level : LevelState) (levels : List LevelState) → level.aborted ≡ true → IsLive p (level ∷ levels) ⊎ IsDead p (level ∷ levels) → IsAtRest p
rests_aborted p level levels aborted s = grind (arith, nat_tests, depth_still level levels aborted)

-- without a level there is no portal
pub rests_outside : (p : OpenPortal) → IsLive p [] ⊎ IsDead p [] → IsAtRest p
rests_outside p s = grind (arith, nat_tests)

-- a portal of a name changes
module _ (name : Text) (f : OpenPortal → OpenPortal) (P Q : OpenPortal → Type 0) where
  pub all_becomes : (ps : List OpenPortal) → ((p : OpenPortal) → is_text p.name name ≡ true → P p → Q (f p)) → ((p : OpenPortal) → is_text p.name name ≡ false → P p → Q p) → All P ps → All Q (portal_changed name f ps)
  all_becomes [] so stay h = All-nil Q
  all_becomes (p ∷ ps) so stay h =
      All-cons Q (if is_text p.name name then f p else p) (portal_changed name f ps) (one (is_text p.name name) (so p) (stay p)) (all_becomes ps so stay (All-tail P p ps h))
    where
      one : (b : Bool) → (b ≡ true → P p → Q (f p)) → (b ≡ false → P p → Q p) → Q (if b then f p else p)
      one true this other = this refl (All-head P p ps h)
      one false this other = other refl (All-head P p ps h)

pub rests_becomes : (name : Text) (f : OpenPortal → OpenPortal) (ps : List OpenPortal) → ((p : OpenPortal) → IsAtRest p → IsAtRest (f p)) → All IsAtRest ps → All IsAtRest (portal_changed name f ps)
rests_becomes name f ps so h = all_becomes name f IsAtRest IsAtRest ps (λ p _ r. so p r) (λ p _ r. r) h

-- one goes
pub rests_but : (name : Text) (ps : List OpenPortal) → All IsAtRest ps → All IsAtRest (portals_but name ps)
rests_but name [] h = All-nil IsAtRest
rests_but name (p ∷ ps) h = elim (cases_Bool (is_text p.name name)) [
  | inl y ↦ rw y (rests_but name ps (All-tail IsAtRest p ps h))
  | inr y ↦ rw y (All-cons IsAtRest p (portals_but name ps) (All-head IsAtRest p ps h) (rests_but name ps (All-tail IsAtRest p ps h)))
]

-- the portals but the one of a name are at rest
abbrev pub RestsBeside : Text → OpenPortal → Type 0
RestsBeside name p = is_text p.name name ≡ false → IsAtRest p

pub rests_beside : (name : Text) (ps : List OpenPortal) → All IsAtRest ps → All (RestsBeside name) ps
rests_beside name ps h = All-weaker IsAtRest (RestsBeside name) (λ p r _. r) ps h

pub beside_becomes : (name : Text) (f : OpenPortal → OpenPortal) (ps : List OpenPortal) → ((p : OpenPortal) → (f p).name ≡ p.name) → All (RestsBeside name) ps → All (RestsBeside name) (portal_changed name f ps)
beside_becomes name f ps keeps h = grind (arith, nat_tests, all_becomes name f (RestsBeside name) (RestsBeside name) ps, both_ways)

-- and then that one
pub beside_rests : (name : Text) (f : OpenPortal → OpenPortal) (ps : List OpenPortal) → ((p : OpenPortal) → IsAtRest (f p)) → All (RestsBeside name) ps → All IsAtRest (portal_changed name f ps)
beside_rests name f ps so h = all_becomes name f (RestsBeside name) IsAtRest ps (λ p _ _. so p) (λ p n r. r n) h

-- all portals of such levels
pub all_rest_aborted : (ps : List OpenPortal) (level : LevelState) (levels : List LevelState) (t : Contexts) (x : OwnerTree) (current : ℕ) → level.aborted ≡ true → All (λ p. IsPortal p (level ∷ levels) t x current) ps → All IsAtRest ps
all_rest_aborted ps level levels t x current aborted h = All-weaker (λ p. IsPortal p (level ∷ levels) t x current) IsAtRest (λ p i. rests_aborted p level levels aborted i.stage) ps h

pub all_rest_outside : (ps : List OpenPortal) (t : Contexts) (x : OwnerTree) (current : ℕ) → All (λ p. IsPortal p [] t x current) ps → All IsAtRest ps
all_rest_outside ps t x current h = All-weaker (λ p. IsPortal p [] t x current) IsAtRest (λ p i. rests_outside p i.stage) ps h
