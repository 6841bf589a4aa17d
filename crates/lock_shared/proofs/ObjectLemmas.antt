-- The holdings of an object among all, and what one more or one less of them leaves.
use Rattle.lock_shared.proofs.Base.{nat_tests, ◌≡◌, ◌≢◌, ℕ, ◌<◌, ◌≤◌, ◌+◌, Bool, true, false, ◌||◌, not, cond, nat_eq, List, [], ◌∷◌, ◌++◌, length, filter, inl, inr, refl, ap, sym, subst, ◌∙◌, append-nil, length-append, arith, Option, None, Some, Result, OnOk, OnErr, All, IsNone, IfSome, list_any, count_by, IsDistinct, option_map_or, nat_eq_equiv, lookup, keys_of, true≢false, eqb-true, eq-eqb, ne_eqb, and_from, cases_Bool, All-head, All-tail, All-push, All-filter, filter-append, length-filter, sum_by-cons, sum_by-append, count_by-le-length, list_any-append, lookup-none, lookup_head, lookup_tail, none_past_head, IsDistinct-tail, any-filter_same}
use Rattle.lock_shared.proofs.Words.{SmallVec, Mode, mode_number, Holding, is_holding, holds, Sets, Blocks, IsFree, IsConflict, AreOnce, IsLeastOf, holdings_of, held_on, with_holding, IsKept, AreKept}
use Rattle.lock_shared.proofs.HoldingLemmas.{holding_parts, holds_last, taken_off, none_is_free, free_is_none, conflict_from}

-- ---- a filter of all, of none, and within another
filter_all : {X : Type 0} (p : X → Bool) (xs : List X) → All (λ x. p x ≡ true) xs → filter p xs ≡ xs
filter_all p [] all = refl
filter_all p (x ∷ xs) all =
    ap (λ b. cond b (x ∷ filter p xs) (filter p xs)) (All-head (λ x. p x ≡ true) x xs all) ∙ ap (λ ys. x ∷ ys) (filter_all p xs (All-tail (λ x. p x ≡ true) x xs all))

filter_none : {X : Type 0} (p : X → Bool) (xs : List X) → All (λ x. p x ≡ false) xs → filter p xs ≡ []
filter_none p [] all = refl
filter_none p (x ∷ xs) all =
    ap (λ b. cond b (x ∷ filter p xs) (filter p xs)) (All-head (λ x. p x ≡ false) x xs all) ∙ filter_none p xs (All-tail (λ x. p x ≡ false) x xs all)

filter_within : {X : Type 0} (p q : X → Bool) → ((x : X) → p x ≡ true → q x ≡ true) → (xs : List X) → filter p (filter q xs) ≡ filter p xs
filter_within p q h [] = refl
filter_within {X} p q h (x ∷ xs) = grind (arith, nat_tests, filter_within p q h xs)

-- ---- where the holdings of an object stand
abbrev Entry : Type 0
Entry = ℕ × SmallVec Holding

abbrev on : ℕ → Holding → Bool
on o h = nat_eq h.object o

abbrev pub AtEntry : ℕ → SmallVec Holding → Type 0
AtEntry o v = IsKept o v.items

-- each entry's holdings are of its object
abbrev Own : List Entry → Type 0
Own es = (q : ℕ) → IfSome (lookup (nat_eq q) es) (λ v. All (λ h. h.object ≡ q) v.items)

-- no other entry has the object of the first
no_other : (o : ℕ) (e : Entry) (es : List Entry) → IsDistinct nat_eq (keys_of (e ∷ es)) → nat_eq o e.0 ≡ true → lookup (nat_eq o) es ≡ None
no_other o e es d same = lookup-none (nat_eq o) es (none_past_head nat_eq_equiv o e es d same)

own_head : (e : Entry) (es : List Entry) → Own (e ∷ es) → All (λ h. h.object ≡ e.0) e.1.items
own_head e es own = grind (arith, nat_tests, e.0, lookup_head (nat_eq e.0) e es (eq-eqb e.0 e.0 refl))

own_tail : (e : Entry) (es : List Entry) → IsDistinct nat_eq (keys_of (e ∷ es)) → Own (e ∷ es) → Own es
own_tail e es d own q = grind (arith, nat_tests, e.0, no_other, lookup_tail)

abbrev items_of : Option (SmallVec Holding) → List Holding
items_of r = option_map_or (λ (v : SmallVec Holding). v.items) r []

-- the holdings of an object among all are those of its entry
stand_there : (es : List Entry) (o : ℕ) → IsDistinct nat_eq (keys_of es) → Own es → filter (on o) (holdings_of es) ≡ held_on es o
stand_there [] o d own = refl
stand_there (e ∷ es) o d own =
    filter-append (on o) e.1.items (holdings_of es)
    ∙ ap (λ ys. filter (on o) e.1.items ++ ys) (stand_there es o (IsDistinct-tail nat_eq e.0 (keys_of es) d) (own_tail e es d own))
    ∙ by_test (nat_eq o e.0) refl
  where
    by_test : (t : Bool) → nat_eq o e.0 ≡ t → filter (on o) e.1.items ++ held_on es o ≡ held_on (e ∷ es) o
    by_test true same =
        ap (λ xs. xs ++ held_on es o) (filter_all (on o) e.1.items (λ k d l. eq-eqb _ o (own_head e es own k d l ∙ sym (eqb-true o e.0 same))))
        ∙ ap (λ (r : Option (SmallVec Holding)). e.1.items ++ items_of r) (no_other o e es d same)
        ∙ append-nil e.1.items
        ∙ sym (ap items_of (lookup_head (nat_eq o) e es same))
    by_test false apart =
        ap (λ xs. xs ++ held_on es o) (filter_none (on o) e.1.items (λ k d l. ne_eqb _ o (λ at. true≢false (sym (eq-eqb o e.0 (sym at ∙ own_head e es own k d l)) ∙ apart))))
        ∙ sym (ap items_of (lookup_tail (nat_eq o) e es apart))

kept_own : (es : List Entry) → AreKept es → Own es
kept_own es k q = grind (arith, nat_tests, k.each q)

-- so whatever asks for an object sees the same in its entry as in all
same_there : (es : List Entry) (o : ℕ) (m : Mode) (s : ℕ) → AreKept es → filter (is_holding o m s) (holdings_of es) ≡ filter (is_holding o m s) (held_on es o)
same_there es o m s k = grind (arith, nat_tests, filter_within, on o, holding_parts, stand_there es o k.unique (kept_own es k), k.unique, kept_own es k)

any_filtered : {X : Type 0} (p : X → Bool) (xs : List X) → list_any p xs ≡ list_any p (filter p xs)
any_filtered p xs = sym (any-filter_same p p true (λ x e. e) xs)

pub held_there : (es : List Entry) (o : ℕ) (m : Mode) (s : ℕ) → AreKept es → holds (holdings_of es) o m s ≡ holds (held_on es o) o m s
held_there es o m s k = grind (arith, nat_tests, any_filtered (is_holding o m s) (holdings_of es), same_there es o m s k, any_filtered (is_holding o m s) (held_on es o))

once_there : (es : List Entry) (o : ℕ) → AreKept es → AreOnce (held_on es o)
once_there es o k m n t = by_entry (lookup (nat_eq o) es) (k.each o)
  where
    by_entry : (r : Option (SmallVec Holding)) → IfSome r (AtEntry o) → count_by (is_holding m n t) (items_of r) ≤ 1
    by_entry None e = omega arith
    by_entry (Some v) e = e.once m n t

pub are_once : (es : List Entry) → AreKept es → AreOnce (holdings_of es)
are_once es k o m s = grind (arith, nat_tests, length-filter (is_holding o m s) (holdings_of es), same_there es o m s k, length-filter (is_holding o m s) (held_on es o), once_there es o k o m s)

-- ---- what is in the way of a lock
pub blocks_there : (es : List Entry) (o : ℕ) (w : Mode) (n s : ℕ) (m : Mode) → AreKept es → Blocks (holdings_of es) o w n s m → Blocks (held_on es o) o w n s m
blocks_there es o w n s m k b = record { stands = sym (held_there es o m s k) ∙ b.stands; against = b.against; another = b.another }

blocks_among_all : (es : List Entry) (o : ℕ) (w : Mode) (n s : ℕ) (m : Mode) → AreKept es → Blocks (held_on es o) o w n s m → Blocks (holdings_of es) o w n s m
blocks_among_all es o w n s m k b = record { stands = held_there es o m s k ∙ b.stands; against = b.against; another = b.another }

pub free_among_all : (es : List Entry) (o : ℕ) (w : Mode) (n : ℕ) → AreKept es → IsFree (held_on es o) o w n → IsFree (holdings_of es) o w n
free_among_all es o w n k free s m b = free s m (blocks_there es o w n s m k b)

pub free_there : (es : List Entry) (o : ℕ) (w : Mode) (n : ℕ) → AreKept es → IsFree (holdings_of es) o w n → IsFree (held_on es o) o w n
free_there es o w n k free s m b = free s m (blocks_among_all es o w n s m k b)

pub conflict_among_all : (es : List Entry) (o : ℕ) (w : Mode) (n s : ℕ) (m : Mode) → AreKept es → IsConflict (held_on es o) o w n s m → IsConflict (holdings_of es) o w n s m
conflict_among_all es o w n s m k c = record {
  blocks = blocks_among_all es o w n s m k c.blocks;
  least_session = λ t q b. c.least_session t q (blocks_there es o w n t q k b);
  least_mode = λ q b. c.least_mode q (blocks_there es o w n s q k b);
}

-- ---- one entry changes
pub kept_with : (es fs : List Entry) (o : ℕ) (r : Option (SmallVec Holding)) → AreKept es → IsDistinct nat_eq (keys_of fs) → IfSome r (AtEntry o) → ((q : ℕ) → lookup (nat_eq q) fs ≡ cond (nat_eq o q) r (lookup (nat_eq q) es)) → AreKept fs
kept_with es fs o r k d new at = record {
  unique = d;
  each = λ q. subst (λ (t : Option (SmallVec Holding)). IfSome t (AtEntry q)) (sym (at q)) (elim (cases_Bool (nat_eq o q)) as (λ _. IfSome (cond (nat_eq o q) r (lookup (nat_eq q) es)) (AtEntry q)) [
    | inl e ↦ subst (λ (b : Bool). IfSome (cond b r (lookup (nat_eq q) es)) (AtEntry q)) (sym e) (subst (λ (n : ℕ). IfSome r (AtEntry n)) (eqb-true o q e) new)
    | inr e ↦ subst (λ (b : Bool). IfSome (cond b r (lookup (nat_eq q) es)) (AtEntry q)) (sym e) (k.each q)
  ]);
}

-- what a session holds changes at one object alone
pub sets_among_all : (es fs : List Entry) (o : ℕ) (m : Mode) (s : ℕ) (b : Bool) → AreKept es → AreKept fs → Sets (held_on es o) (held_on fs o) o m s b → ((q : ℕ) → nat_eq o q ≡ false → held_on fs q ≡ held_on es q) → Sets (holdings_of es) (holdings_of fs) o m s b
sets_among_all es fs o m s b k l sets others = grind (arith, nat_tests, held_there fs o m s l, sets.this, held_there, sets.others_locks, sets.others_sessions, holds)

-- ---- one more holding, or one less
none_counts : {X : Type 0} (p : X → Bool) (xs : List X) → list_any p xs ≡ false → count_by p xs ≡ 0
none_counts p [] e = refl
none_counts p (x ∷ xs) e =
    let f = or_parts (p x) (list_any p xs) e in
    omega (arith, sum_by-cons (λ y. cond (p y) 1 0) x xs, ap (λ b. 0 + cond b 1 0) f.0, none_counts p xs f.1)
  where
    or_parts : (a b : Bool) → (a || b) ≡ false → (a ≡ false) × (b ≡ false)
    or_parts true b e = absurd (true≢false e)
    or_parts false b e = (refl, e)

count_kept : {X : Type 0} (p q : X → Bool) (xs : List X) → count_by q (filter p xs) ≤ count_by q xs
count_kept p q [] = omega arith
count_kept p q (x ∷ xs) = by_test (p x) (count_kept p q xs)
  where
    by_test : (t : Bool) → count_by q (filter p xs) ≤ count_by q xs → count_by q (cond t (x ∷ filter p xs) (filter p xs)) ≤ count_by q (x ∷ xs)
    by_test true ih = omega (arith, ih, sum_by-cons (λ y. cond (q y) 1 0) x xs, sum_by-cons (λ y. cond (q y) 1 0) x (filter p xs))
    by_test false ih = omega (arith, ih, sum_by-cons (λ y. cond (q y) 1 0) x xs)

-- what a holding is, every test of it tells alike
holds_alike : (xs : List Holding) (o : ℕ) (m : Mode) (s : ℕ) (h : Holding) → is_holding o m s h ≡ true → holds xs o m s ≡ holds xs h.object h.mode h.session
holds_alike xs o m s h e = grind (arith, nat_tests, holding_parts o m s h e)

once_with : (xs : List Holding) (h : Holding) → AreOnce xs → holds xs h.object h.mode h.session ≡ false → AreOnce (xs ++ h ∷ [])
once_with xs h once new o m s = elim (cases_Bool (is_holding o m s h)) as (λ _. count_by (is_holding o m s) (xs ++ h ∷ []) ≤ 1) [
  | inl e ↦
      let none = none_counts (is_holding o m s) xs (holds_alike xs o m s h e ∙ new) in
      omega (arith, both, none, count_by-le-length (is_holding o m s) (h ∷ []))
  | inr e ↦ omega (arith, both, once o m s, ap (λ b. 0 + cond b 1 0) e)
]
  where
    both : count_by (is_holding o m s) (xs ++ h ∷ []) ≡ count_by (is_holding o m s) xs + count_by (is_holding o m s) (h ∷ [])
    both = sum_by-append (λ y. cond (is_holding o m s y) 1 0) xs (h ∷ [])

pub kept_one : (h : Holding) → IsKept h.object (h ∷ [])
kept_one h = grind (arith, nat_tests, All-push, h.object, count_by-le-length)

pub kept_more : (h : Holding) (xs : List Holding) → IsKept h.object xs → IsKept h.object (with_holding h xs)
kept_more h xs k = by_test (holds xs h.object h.mode h.session) refl
  where
    by_test : (t : Bool) → holds xs h.object h.mode h.session ≡ t → IsKept h.object (cond t xs (xs ++ h ∷ []))
    by_test true e = k
    by_test false e = record {
      own = All-push (λ x. x.object ≡ h.object) xs h k.own refl;
      once = once_with xs h k.once e;
      some = omega (arith, length-append xs (h ∷ []));
    }

pub kept_less : (o : ℕ) (p : Holding → Bool) (xs : List Holding) → IsKept o xs → 0 < length (filter p xs) → IsKept o (filter p xs)
kept_less o p xs k some = record {
  own = All-filter p (λ x. x.object ≡ o) xs k.own;
  once = λ n m s. omega (arith, count_kept p (is_holding n m s) xs, k.once n m s);
  some = some;
}

pub sets_more : (h : Holding) (xs : List Holding) → Sets xs (with_holding h xs) h.object h.mode h.session true
sets_more h xs = by_test (holds xs h.object h.mode h.session) refl
  where
    or_false : (b : Bool) → (b || false) ≡ b
    or_false true = refl
    or_false false = refl

    still : (o : ℕ) (m : Mode) (s : ℕ) → (is_holding o m s h ≡ true → ⊥) → holds (xs ++ h ∷ []) o m s ≡ holds xs o m s
    still o m s never = list_any-append (is_holding o m s) xs (h ∷ []) ∙ elim (cases_Bool (is_holding o m s h)) as (λ _. (holds xs o m s || (is_holding o m s h || false)) ≡ holds xs o m s) [
      | inl e ↦ absurd (never e)
      | inr e ↦ ap (λ b. holds xs o m s || (b || false)) e ∙ or_false (holds xs o m s)
    ]

    by_test : (t : Bool) → holds xs h.object h.mode h.session ≡ t → Sets xs (cond t xs (xs ++ h ∷ [])) h.object h.mode h.session true
    by_test true e = record { this = e; others_locks = λ o m s other. refl; others_sessions = λ o m s other. refl }
    by_test false e = record {
      this = holds_last xs h;
      others_locks = λ o m s other. still o m s (λ e.
          let p = holding_parts o m s h e in
          true≢false (sym (and_from (nat_eq o h.object) (nat_eq (mode_number m) (mode_number h.mode)) (eq-eqb o h.object (sym p.0)) (eq-eqb (mode_number m) (mode_number h.mode) (sym p.1))) ∙ other));
      others_sessions = λ o m s other. still o m s (λ e. other (sym (holding_parts o m s h e).2));
    }

-- ---- what calls leave
pub kept_at : (es : List Entry) (o : ℕ) (v : SmallVec Holding) → AreKept es → Some v ≡ lookup (nat_eq o) es → IsKept o v.items
kept_at es o v k at = subst (λ (r : Option (SmallVec Holding)). IfSome r (AtEntry o)) (sym at) (k.each o)

pub kept_added : {E : Type 0} (r : Result (Unit {0}) E) (h : Holding) (v w : SmallVec Holding) → OnOk r (w.items ≡ with_holding h v.items) → OnErr r (w ≡ v) → IsKept h.object v.items → IsKept h.object w.items
kept_added x0 h v w ok err k = grind (arith, nat_tests, h.object, kept_more h v.items k, v.items)

pub held_at : (es : List Entry) (h : Holding) (v : SmallVec Holding) → Some v ≡ lookup (nat_eq h.object) es → holds (held_on es h.object) h.object h.mode h.session ≡ true → holds v.items h.object h.mode h.session ≡ true
held_at es h v at e = ap (λ (r : Option (SmallVec Holding)). holds (items_of r) h.object h.mode h.session) at ∙ e

pub OnOk-map : {X E : Type 0} {P Q : Type 0} (r : Result X E) → (P → Q) → OnOk r P → OnOk r Q
OnOk-map x0 f p = grind (arith, nat_tests)

pub OnErr-map : {X E : Type 0} {P Q : Type 0} (r : Result X E) → (P → Q) → OnErr r P → OnErr r Q
OnErr-map x0 f p = grind (arith, nat_tests)

pub without_entry : (b : Bool) (x y z : Option (SmallVec Holding)) (w : SmallVec Holding) → x ≡ cond b None y → y ≡ cond b (Some w) z → x ≡ cond b None z
without_entry x0 x y z w e f = grind (arith, nat_tests)

pub sets_put : (es fs : List Entry) (h : Holding) → AreKept es → AreKept fs → ((q : ℕ) → held_on fs q ≡ cond (nat_eq h.object q) (with_holding h (held_on es q)) (held_on es q)) → Sets (holdings_of es) (holdings_of fs) h.object h.mode h.session true
sets_put es fs h k l at =
    sets_among_all es fs h.object h.mode h.session true k l
    (subst (λ (xs : List Holding). Sets (held_on es h.object) xs h.object h.mode h.session true) (sym here) (sets_more h (held_on es h.object)))
    (λ q e. at q ∙ ap (λ b. cond b (with_holding h (held_on es q)) (held_on es q)) e)
  where
    here : held_on fs h.object ≡ with_holding h (held_on es h.object)
    here = at h.object ∙ ap (λ b. cond b (with_holding h (held_on es h.object)) (held_on es h.object)) (eq-eqb h.object h.object refl)

pub sets_struck : (es fs : List Entry) (o : ℕ) (m : Mode) (s : ℕ) → AreKept es → AreKept fs → ((q : ℕ) → held_on fs q ≡ cond (nat_eq o q) (filter (λ h. not (is_holding o m s h)) (held_on es q)) (held_on es q)) → Sets (holdings_of es) (holdings_of fs) o m s false
sets_struck es fs o m s k l at =
    sets_among_all es fs o m s false k l
    (taken_off (held_on es o) (held_on fs o) o m s (at o ∙ ap (λ b. cond b (filter (λ h. not (is_holding o m s h)) (held_on es o)) (held_on es o)) (eq-eqb o o refl)))
    (λ q e. at q ∙ ap (λ b. cond b (filter (λ h. not (is_holding o m s h)) (held_on es q)) (held_on es q)) e)

-- what was found among the holdings of the object, as what all holdings say
pub none_found : (es : List Entry) (o : ℕ) (w : Mode) (n : ℕ) (r : Option (ℕ × Mode)) → AreKept es → IsLeastOf (held_on es o) o w n r → IsNone r → IsFree (holdings_of es) o w n
none_found es o w n r k found e = free_among_all es o w n k (none_is_free (held_on es o) o w n r found e)

pub free_found : (es : List Entry) (o : ℕ) (w : Mode) (n : ℕ) (r : Option (ℕ × Mode)) → AreKept es → IsLeastOf (held_on es o) o w n r → IsFree (holdings_of es) o w n → IsNone r
free_found es o w n r k found free = free_is_none (held_on es o) o w n r found (free_there es o w n k free)

pub conflict_found : (es : List Entry) (o : ℕ) (w : Mode) (n : ℕ) (r : Option (ℕ × Mode)) → AreKept es → IsLeastOf (held_on es o) o w n r → IfSome r (λ c. IsConflict (holdings_of es) o w n c.0 c.1)
conflict_found es o w n None k found = tt
conflict_found es o w n (Some c) k found = conflict_among_all es o w n c.0 c.1 k (conflict_from (held_on es o) o w n c.0 c.1 found)
