-- What plans keep where one of them changes or goes.
use Rattle.session_rules.proofs.Base.{◌≡◌, ◌≢◌, ℕ, ◌≤◌, ◌<◌, true, false, Some, List, [], ◌∷◌, ◌++◌, refl, sym, ap, ◌∙◌, subst, inl, inr, ◌==◌, All, cases_eq, cases_Bool, eqb-true, eq-eqb, ne_eqb, both_ways, All-nil, All-cons, All-head, All-tail, All-weaker, arith, nat_tests}
use Rattle.session_rules.proofs.Below.{Empty, has, children, parent_of, removed, Contexts, is_protected}
use Rattle.session_rules.proofs.Rules.{StandingPlan, abort_context, cache_context, plan_at, plan_changed, plans_but, AreApart, AreContexts, ArePlans, Differ, IsPlan, references_of}
use Rattle.session_rules.proofs.ContextsKept.{same_removed}
use Rattle.session_rules.proofs.Lone.{lone_left}

abbrev pub IsOther : ℕ → StandingPlan → Type 0
IsOther n plan = plan.number ≢ n

-- the plan of a number, and those before and behind it
pub record Split (n : ℕ) (p : StandingPlan) (plans : List StandingPlan) : Type 0 where
  pub front : List StandingPlan
  pub back : List StandingPlan
  pub is : plans ≡ front ++ (p ∷ back)
  pub number : p.number ≡ n
  pub before : All (IsOther n) front
  pub behind : All (IsOther n) back

pub split : (n : ℕ) (p : StandingPlan) (plans : List StandingPlan) → AreApart plans → plan_at n plans ≡ Some p → Split n p plans
split n p [] apart e = absurd (cc e)
split n p (q ∷ qs) apart e = elim (cases_Bool (q.number == n)) [
  | inl y ↦
      let same : q ≡ p = let z : Some q ≡ Some p = rw y at e in cc z in
      let number : q.number ≡ n = eqb-true q.number n y in
      record {
        front = [];
        back = qs;
        is = ap (λ (x : StandingPlan). x ∷ qs) same;
        number = ap (λ (x : StandingPlan). x.number) (sym same) ∙ number;
        before = All-nil (IsOther n);
        behind = All-weaker (Differ q) (IsOther n) (λ r d z. d.number (z ∙ sym number)) qs apart.0;
      }
  | inr y ↦
      let w : Split n p qs = split n p qs apart.1 (rw y at e) in
      record {
        front = q ∷ w.front;
        back = w.back;
        is = ap (λ (xs : List StandingPlan). q ∷ xs) w.is;
        number = w.number;
        before = All-cons (IsOther n) q w.front (λ z. both_ways (q.number == n) y (eq-eqb q.number n z)) w.before;
        behind = w.behind;
      }
]

-- what holds of each of a list with one in the middle
module _ {A : Type 0} (P : A → Type 0) where
  pub all_replaced : (p q : A) (front back : List A) → (P p → P q) → All P (front ++ (p ∷ back)) → All P (front ++ (q ∷ back))
  all_replaced p q [] back so h = All-cons P q back (so (All-head P p back h)) (All-tail P p back h)
  all_replaced p q (x ∷ xs) back so h =
      All-cons P x (xs ++ (q ∷ back)) (All-head P x (xs ++ (p ∷ back)) h) (all_replaced p q xs back so (All-tail P x (xs ++ (p ∷ back)) h))

  pub all_without : (p : A) (front back : List A) → All P (front ++ (p ∷ back)) → All P (front ++ back)
  all_without p [] back h = All-tail P p back h
  all_without p (x ∷ xs) back h = All-cons P x (xs ++ back) (All-head P x (xs ++ (p ∷ back)) h) (all_without p xs back (All-tail P x (xs ++ (p ∷ back)) h))

  pub all_middle : (p : A) (front back : List A) → All P (front ++ (p ∷ back)) → P p
  all_middle p [] back h = All-head P p back h
  all_middle p (x ∷ xs) back h = all_middle p xs back (All-tail P x (xs ++ (p ∷ back)) h)

-- plans stay apart
apart_replaced : (p q : StandingPlan) (front back : List StandingPlan) → q.number ≡ p.number → q.context ≡ p.context → AreApart (front ++ (p ∷ back)) → AreApart (front ++ (q ∷ back))
apart_replaced p q [] back n c h = grind (arith, nat_tests)
apart_replaced p q (x ∷ xs) back n c h = grind (arith, nat_tests, all_replaced (Differ x) p q xs back, apart_replaced p q xs back n c h.1)

apart_without : (p : StandingPlan) (front back : List StandingPlan) → AreApart (front ++ (p ∷ back)) → AreApart (front ++ back)
apart_without p [] back h = h.1
apart_without p (x ∷ xs) back h = (all_without (Differ x) p xs back h.0, apart_without p xs back h.1)

-- the other plans have other contexts
apart_others : (p : StandingPlan) (front back : List StandingPlan) → AreApart (front ++ (p ∷ back)) → All (λ q. q.context ≢ p.context) (front ++ back)
apart_others p [] back h = All-weaker (Differ p) (λ q. q.context ≢ p.context) (λ q d. d.context) back h.0
apart_others p (x ∷ xs) back h = grind (arith, nat_tests, all_middle (Differ x) p xs back h.0, apart_others p xs back h.1)

-- the plan changes, or goes
changed_others : (n : ℕ) (change : StandingPlan → StandingPlan) (xs : List StandingPlan) → All (IsOther n) xs → plan_changed n change xs ≡ xs
changed_others n change [] h = refl
changed_others n change (x ∷ xs) h = grind (arith, nat_tests, ne_eqb x.number n (All-head (IsOther n) x xs h), changed_others n change xs (All-tail (IsOther n) x xs h))

pub changed_is : (n : ℕ) (change : StandingPlan → StandingPlan) (p : StandingPlan) (front back : List StandingPlan) → p.number ≡ n → All (IsOther n) front → All (IsOther n) back
    → plan_changed n change (front ++ (p ∷ back)) ≡ front ++ (change p ∷ back)
changed_is n change p [] back e f b = rw (eq-eqb p.number n e) (ap (λ (ys : List StandingPlan). change p ∷ ys) (changed_others n change back b))
changed_is n change p (x ∷ xs) back e f b = grind (arith, nat_tests, ne_eqb x.number n (All-head (IsOther n) x xs f), changed_is n change p xs back e (All-tail (IsOther n) x xs f) b)

but_others : (n : ℕ) (xs : List StandingPlan) → All (IsOther n) xs → plans_but n xs ≡ xs
but_others n [] h = refl
but_others n (x ∷ xs) h = grind (arith, nat_tests, ne_eqb x.number n (All-head (IsOther n) x xs h), but_others n xs (All-tail (IsOther n) x xs h))

pub but_is : (n : ℕ) (p : StandingPlan) (front back : List StandingPlan) → p.number ≡ n → All (IsOther n) front → All (IsOther n) back → plans_but n (front ++ (p ∷ back)) ≡ front ++ back
but_is n p [] back e f b = rw (eq-eqb p.number n e) (but_others n back b)
but_is n p (x ∷ xs) back e f b = grind (arith, nat_tests, ne_eqb x.number n (All-head (IsOther n) x xs f), but_is n p xs back e (All-tail (IsOther n) x xs f) b)

-- how many references are counted then
none_counted : (n : ℕ) (xs : List StandingPlan) → All (IsOther n) xs → references_of n xs ≡ 0
none_counted n [] h = refl
none_counted n (x ∷ xs) h = rw (ne_eqb x.number n (All-head (IsOther n) x xs h)) (none_counted n xs (All-tail (IsOther n) x xs h))

pub counted_at : (n : ℕ) (p : StandingPlan) (front back : List StandingPlan) → p.number ≡ n → All (IsOther n) front → references_of n (front ++ (p ∷ back)) ≡ p.references
counted_at n p [] back e f = rw (eq-eqb p.number n e) refl
counted_at n p (x ∷ xs) back e f = rw (ne_eqb x.number n (All-head (IsOther n) x xs f)) (counted_at n p xs back e (All-tail (IsOther n) x xs f))

none_without : (n : ℕ) (front back : List StandingPlan) → All (IsOther n) front → All (IsOther n) back → references_of n (front ++ back) ≡ 0
none_without n [] back f b = none_counted n back b
none_without n (x ∷ xs) back f b = rw (ne_eqb x.number n (All-head (IsOther n) x xs f)) (none_without n xs back (All-tail (IsOther n) x xs f) b)

counted_other : (m : ℕ) (p : StandingPlan) (front back : List StandingPlan) → p.number ≢ m → references_of m (front ++ (p ∷ back)) ≡ references_of m (front ++ back)
counted_other m p [] back ne = rw (ne_eqb p.number m ne) refl
counted_other m p (x ∷ xs) back ne = grind (arith, nat_tests, counted_other m p xs back ne)

-- A plan becomes another one of its number and its context.
pub plans_replaced : (plans : List StandingPlan) (t : Contexts) (current : ℕ) (c d : ℕ → ℕ) (n : ℕ) (p q : StandingPlan) → ArePlans plans t current c → (s : Split n p plans)
    → q.number ≡ p.number → q.context ≡ p.context → (q.discarded ≡ true → 1 ≤ q.references) → d n ≡ q.references → ((m : ℕ) → n ≢ m → d m ≡ c m)
    → ArePlans (s.front ++ (q ∷ s.back)) t current d
plans_replaced plans t current c d n p q h s number context kept now others =
    let was : ArePlans (s.front ++ (p ∷ s.back)) t current c = subst (λ (x : List StandingPlan). ArePlans x t current c) s.is h in
    record {
      each = all_replaced (λ x. IsPlan x t current) p q s.front s.back (λ i. record {
        protected = subst (λ (x : ℕ). is_protected x t ≡ true) (sym context) i.protected;
        parent = subst (λ (x : ℕ). parent_of x t ≡ Some cache_context) (sym context) i.parent;
        own = subst (λ (x : ℕ). abort_context < x) (sym context) i.own;
        lone = subst (λ (x : ℕ). children x t ≡ Empty) (sym context) i.lone;
        other = λ z. i.other (z ∙ context);
        kept = kept;
      }) was.each;
      apart = apart_replaced p q s.front s.back number context was.apart;
      counted = grind (arith, nat_tests, cases_eq n, counted_at n q s.front s.back, counted_other);
    }

-- A plan goes, with its context.
pub plans_without : (plans : List StandingPlan) (t : Contexts) (next current : ℕ) (c d : ℕ → ℕ) (n : ℕ) (p : StandingPlan) → AreContexts t next → ArePlans plans t current c → (s : Split n p plans) → d n ≡ 0
    → ((m : ℕ) → n ≢ m → d m ≡ c m) → ArePlans (s.front ++ s.back) (removed p.context t) current d
plans_without plans t next current c d n p contexts h s now others =
    let was : ArePlans (s.front ++ (p ∷ s.back)) t current c = subst (λ (x : List StandingPlan). ArePlans x t current c) s.is h in
    let own : IsPlan p t current = all_middle (λ x. IsPlan x t current) p s.front s.back was.each in
    let out : (m : ℕ) → has m (children p.context t) ≡ false = λ m. ap (has m) own.lone in
    let stands : All (λ x. IsPlan x t current) (s.front ++ s.back) = all_without (λ x. IsPlan x t current) p s.front s.back was.each in
    let differ : All (λ x. x.context ≢ p.context) (s.front ++ s.back) = apart_others p s.front s.back was.apart in
    record {
      each = grind (arith, nat_tests, same_removed t next contexts, lone_left);
      apart = apart_without p s.front s.back was.apart;
      counted = grind (arith, nat_tests, cases_eq n, none_without n s.front s.back s.before s.behind, counted_other);
    }
