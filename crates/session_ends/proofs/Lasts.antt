-- The portals of a store in their order: those that are done stand in front of those that are left.
use Rattle.session_ends.proofs.Base.{nat_tests, ◌≡◌, ◌≢◌, ℕ, ◌+◌, ◌-◌, ◌<◌, Bool, true, false, Option, Some, None, List, [], ◌∷◌, ◌++◌, length, All, IfSome, refl, sym, ap, ◌∙◌, subst, arith, inl, inr, suc, zero, find, ◌==◌, if◌then◌else◌, slice_get, slice_set, cases_Bool, All-head, All-tail, All-nil, All-cons, bytes_decides, pointwise}
use Rattle.session_ends.proofs.Words.{Portal, has_name, without, OpenPortal, AreDifferent, AreOther, portal_state, portals_of, PortalLies, all_at, sub_aborted, to_parent, TreeState, ResourceState}

-- what holds of all holds of the one that is found
pub found_all : {A : Type 0} (P : A → Type 0) (test : A → Bool) (xs : List A) → All P xs → IfSome (find test xs) P
found_all P test [] h = tt
found_all P test (x ∷ xs) h = grind (arith, nat_tests, found_all P test xs (All-tail P x xs h), All-tail P x xs h, All-head)

-- The portals of a store, of which the first of those that are left is this one.
pub record IsSplit (ps : List Portal) (front : List OpenPortal) (p : OpenPortal) (back : List OpenPortal) : Type 0 where
  pub before : List Portal
  pub this : Portal
  pub behind : List Portal
  pub is : ps ≡ before ++ (this ∷ behind)
  pub before_is : portals_of before ≡ front
  pub this_is : portal_state this ≡ p
  pub behind_is : portals_of behind ≡ back

split_head : {A : Type 0} (x y : A) (xs ys : List A) → x ∷ xs ≡ y ∷ ys → (x ≡ y) × (xs ≡ ys)
split_head x y xs ys e = (cc e, cc e)

pub splits : (ps : List Portal) (front : List OpenPortal) (p : OpenPortal) (back : List OpenPortal) → portals_of ps ≡ front ++ (p ∷ back) → IsSplit ps front p back
splits [] [] p back e = absurd (cc e)
splits [] (f ∷ fs) p back e = absurd (cc e)
splits (q ∷ qs) [] p back e =
    let h = split_head (portal_state q) p (portals_of qs) back e in
    record { before = []; this = q; behind = qs; is = refl; before_is = refl; this_is = h.0; behind_is = h.1 }
splits (q ∷ qs) (f ∷ fs) p back e =
    let h = split_head (portal_state q) f (portals_of qs) (fs ++ (p ∷ back)) e in
    let r : IsSplit qs fs p back = splits qs fs p back h.1 in
    record {
      before = q ∷ r.before;
      this = r.this;
      behind = r.behind;
      is = ap (λ (xs : List Portal). q ∷ xs) r.is;
      before_is = ap (λ (xs : List OpenPortal). portal_state q ∷ xs) r.before_is ∙ ap (λ (x : OpenPortal). x ∷ fs) h.0;
      this_is = r.this_is;
      behind_is = r.behind_is;
    }

-- by its place
pub get_split : {A : Type 0} (before behind : List A) (x : A) → slice_get (before ++ (x ∷ behind)) (length before) ≡ Some x
get_split [] behind x = refl
get_split (y ∷ ys) behind x = get_split ys behind x

pub set_split : {A : Type 0} (before behind : List A) (x y : A) → slice_set (before ++ (x ∷ behind)) (length before) y ≡ before ++ (y ∷ behind)
set_split [] behind x y = refl
set_split (z ∷ zs) behind x y = ap (λ (xs : List _). z ∷ xs) (set_split zs behind x y)

pub length_split : {A : Type 0} (before behind : List A) (x : A) → length (before ++ (x ∷ behind)) ≡ length before + (length behind + 1)
length_split [] behind x = omega arith
length_split (y ∷ ys) behind x = omega (arith, length_split ys behind x)

-- by its name
is_named : (a b : List ℕ) → a ≡ b → pointwise ◌==◌ a b ≡ true
is_named a b e = (bytes_decides a b).1 e

names_differ : (q p : Portal) → p.name ≢ q.name → has_name p.name q ≡ false
names_differ q p ne = elim (cases_Bool (has_name p.name q)) [ inl y ↦ absurd (ne (sym ((bytes_decides q.name p.name).0 y))) | inr y ↦ y ]

-- the portals in front have other names
abbrev pub HaveOthers : Portal → List Portal → Type 0
HaveOthers p qs = All (λ (q : Portal). p.name ≢ q.name) qs

pub others_in : (p : Portal) (before behind : List Portal) → AreDifferent (portals_of before ++ (portal_state p ∷ portals_of behind)) → HaveOthers p before
others_in p [] behind d = All-nil (λ (q : Portal). p.name ≢ q.name)
others_in p (q ∷ qs) behind d =
    All-cons (λ (r : Portal). p.name ≢ r.name) q qs (first (portals_of qs) d.0) (others_in p qs behind d.1)
  where
    first : (xs : List OpenPortal) → All (AreOther (portal_state q)) (xs ++ (portal_state p ∷ portals_of behind)) → p.name ≢ q.name
    first [] a = let o = All-head (AreOther (portal_state q)) (portal_state p) (portals_of behind) a in o.name
    first (x ∷ xs) a = first xs (All-tail (AreOther (portal_state q)) x (xs ++ (portal_state p ∷ portals_of behind)) a)

pub without_split : (p : Portal) (before behind : List Portal) → HaveOthers p before → without p.name (before ++ (p ∷ behind)) ≡ before ++ behind
without_split p [] behind o = rw (is_named p.name p.name refl) refl
without_split p (q ∷ qs) behind o =
    rw (names_differ q p (All-head (λ (r : Portal). p.name ≢ r.name) q qs o))
    (ap (λ (xs : List Portal). q ∷ xs) (without_split p qs behind (All-tail (λ (r : Portal). p.name ≢ r.name) q qs o)))

-- what holds of all holds where one goes
pub all_without : (P : Portal → Type 0) (name : List ℕ) (ps : List Portal) → All P ps → All P (without name ps)
all_without P name [] h = All-nil P
all_without P name (p ∷ ps) h = grind (arith, nat_tests, has_name name p, all_without P name ps (All-tail P p ps h), All-tail P p ps h, without name ps, without, All-tail, All-cons, All-head P p ps h)

all_set : (P : Portal → Type 0) (ps : List Portal) (i : ℕ) (q : Portal) → P q → All P ps → All P (slice_set ps i q)
all_set P [] i q holds h = h
all_set P (p ∷ ps) zero q holds h = All-cons P q ps holds (All-tail P p ps h)
all_set P (p ∷ ps) (suc i) q holds h = All-cons P p (slice_set ps i q) (All-head P p ps h) (all_set P ps i q holds (All-tail P p ps h))

-- a portal lies still where its level is aborted
aborted_lies : (tree : TreeState) (table : ResourceState) (level : ℕ) (p : Portal) → PortalLies tree table p → PortalLies tree table (sub_aborted level p)
aborted_lies tree table level p lies = grind (arith, nat_tests, p.created, p.owner, lies.owner, p.state, lies.context, lies.expr, lies.scan)

-- one portal becomes another one in its place
all_become : (tree : TreeState) (table : ResourceState) (f : Portal → Portal) → ((p : Portal) → PortalLies tree table p → PortalLies tree table (f p)) → (ps new : List Portal) (i : ℕ) → IfSome (slice_get ps i) (λ portal. new ≡ slice_set ps i (f portal)) → i < length ps → All (PortalLies tree table) ps
    → All (PortalLies tree table) new
all_become tree table f on ps new i is within h = go (slice_get ps i) refl is
  where
    none : (xs : List Portal) (n : ℕ) → n < length xs → slice_get xs n ≡ None → ⊥
    none [] n w e = omega (arith, w)
    none (x ∷ xs) zero w e = cc e
    none (x ∷ xs) (suc n) w e = none xs n (omega (arith, w)) e

    go : (o : Option Portal) → slice_get ps i ≡ o → IfSome o (λ portal. new ≡ slice_set ps i (f portal)) → All (PortalLies tree table) new
    go None e is = absurd (none ps i within e)
    go (Some p) e is = subst (All (PortalLies tree table)) (sym is) (all_set (PortalLies tree table) ps i (f p) (on p (all_at (PortalLies tree table) ps i p h e)) h)

pub all_aborted : (tree : TreeState) (table : ResourceState) (level : ℕ) (ps new : List Portal) (i : ℕ) → IfSome (slice_get ps i) (λ portal. new ≡ slice_set ps i (sub_aborted level portal)) → i < length ps → All (PortalLies tree table) ps → All (PortalLies tree table) new
all_aborted tree table level = all_become tree table (sub_aborted level) (aborted_lies tree table level)

pub all_passed : (tree : TreeState) (table : ResourceState) (level : ℕ) (ps new : List Portal) (i : ℕ) → IfSome (slice_get ps i) (λ portal. new ≡ slice_set ps i (to_parent level portal)) → i < length ps → All (PortalLies tree table) ps → All (PortalLies tree table) new
all_passed tree table level = all_become tree table (to_parent level) (λ (p : Portal) lies. record { context = lies.context; expr = lies.expr; owner = lies.owner; scan = lies.scan })
